use Rattle.std.proofs.Common.{append_assoc}
use Rattle.picture.proofs.margin.put_limits.Goals as goal

pub returns : goal.returns
returns c = simp (c.in_ok-put_bound.ensures, c.in_ok-write.ensures.bytes, c.deadline.ensures, c.unit_of-unit.ensures, c.in_millis-millis.ensures, c.top_of.ensures.value, append_assoc) at c.write-2.ensures.bytes
