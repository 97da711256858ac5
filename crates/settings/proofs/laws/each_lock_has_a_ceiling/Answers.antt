use Rattle.settings.proofs.LockLaws.{has_ceiling}
use Rattle.settings.proofs.laws.each_lock_has_a_ceiling.Goals as goal

pub returns : goal.returns
returns c = λ U order lock each has. has_ceiling lock U order each has
