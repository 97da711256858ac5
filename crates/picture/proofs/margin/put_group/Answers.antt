use Rattle.std.proofs.Common.{append_assoc, string_bytes}
use Rattle.frames.proofs.Puts.{put_both, put_last}
use Rattle.picture.proofs.margin.put_group.Goals as goal

pub returns : goal.returns
returns c =
    let start = string_bytes c.args.text.now in
    let head = simp (c.unit_of-unit.ensures, c.in_millis.ensures, append_assoc)
    at c.in_ok-write.ensures.bytes in
    put_last _ start _ _ _ _ (put_both start _ _ _ _ (put_both start _ _ _ _ head c.in_ok-put_lane_head.ensures) c.in_ok-put_margins.ensures)
    c.writeln.ensures.bytes
