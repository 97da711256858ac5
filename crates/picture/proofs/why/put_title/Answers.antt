use Rattle.std.proofs.Common.{append_assoc}
use Rattle.picture.proofs.why.put_title.Goals as goal

pub returns : goal.returns
returns c = simp (c.in_ok-put_lock.ensures, c.in_ok-write.ensures.bytes, c.name_in-name.ensures, c.name_in-other.ensures, append_assoc) at c.write-2.ensures.bytes
