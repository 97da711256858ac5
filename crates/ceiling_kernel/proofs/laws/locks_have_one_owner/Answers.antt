use Rattle.ceiling_kernel.proofs.NestLaws.{one_holder_law}
use Rattle.ceiling_kernel.proofs.laws.locks_have_one_owner.Goals as goal

pub returns : goal.returns
returns c = one_holder_law
