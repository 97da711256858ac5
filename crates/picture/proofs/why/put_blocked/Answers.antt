use Rattle.std.proofs.Common.{append-nil, string_bytes}
use Rattle.frames.proofs.Puts.{put_both, put_last}
use Rattle.picture.proofs.why.put_blocked.Goals as goal

pub returns : goal.returns
returns c =
    let start = string_bytes c.args.text.now in
    let tone = simp (c.tone_of_lock-tone.ensures, append-nil) at c.in_ok-write.ensures.bytes in
    let line = rw (c.max-right.ensures, c.saturating_sub.ensures, c.x_of-stop.ensures.value, c.x_of-start.ensures.value)
    at c.in_ok-put_line.ensures in
    let link = rw c.tone_of_lock-tone.ensures at c.put_link.ensures in
    put_last _ start _ _ _ _ (put_both start _ _ _ _ (put_both start _ _ _ _ tone line) c.in_ok-put_title.ensures)
    link
