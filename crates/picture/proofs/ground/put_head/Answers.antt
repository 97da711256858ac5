use Rattle.std.proofs.Common.{append_assoc, string_bytes}
use Rattle.frames.proofs.Puts.{put_both, put_last}
use Rattle.picture.proofs.ground.put_head.Goals as goal

pub returns : goal.returns
returns c =
    let start = string_bytes c.args.text.now in
    let size = rw (c.end_of.ensures.value, c.top_of.ensures.value, c.locks_high.ensures.value)
    at c.in_ok-put_size_head.ensures in
    let words = simp (c.end_of.ensures.value, c.top_of.ensures.value, c.locks_high.ensures.value, append_assoc)
    at c.in_ok-write.ensures.bytes in
    put_last _ start _ _ _ _ (put_both start _ _ _ _ (put_both start _ _ _ _ size words) c.in_ok-put_title_tail.ensures)
    c.writeln.ensures.bytes
