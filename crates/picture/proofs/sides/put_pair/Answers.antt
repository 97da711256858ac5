use Rattle.std.proofs.Common.{append_assoc}
use Rattle.picture.proofs.sides.put_pair.Goals as goal

pub returns : goal.returns
returns c = simp (c.top_of-upper.ensures.value, c.top_of-lower.ensures.value, c.start_of-left.ensures, c.end_of-end.ensures.value, append_assoc) at c.write.ensures.bytes
