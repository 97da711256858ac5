use Rattle.std.proofs.Common.{string_bytes}
use Rattle.frames.proofs.Puts.{put_both, put_last}
use Rattle.picture.proofs.margin.put_margin.Goals as goal

pub returns : goal.returns
returns c =
    let start = string_bytes c.args.text.now in
    let name = rw c.missed_in-missed.ensures at c.in_ok-put_row_name.ensures in
    let line = rw (c.missed_in-missed.ensures, c.latest_in.ensures) at c.put_missed_line.ensures in
    put_last _ start _ _ _ _ (put_both start _ _ _ _ (put_both start _ _ _ _ c.in_ok-put_level.ensures name) c.in_ok-put_limits.ensures)
    line
