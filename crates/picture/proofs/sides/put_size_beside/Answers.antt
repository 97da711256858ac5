use Rattle.std.proofs.Common.{append-nil, append_assoc}
use Rattle.picture.proofs.sides.put_size_beside.Goals as goal

pub returns : goal.returns
returns c = simp (append-nil, append_assoc) (simp (c.in_ok-put_size_head.ensures, c.top_of.ensures.value, c.locks_high.ensures.value, c.end_of.ensures.value, append_assoc) at c.write.ensures.bytes)
