use Rattle.ceiling_kernel.proofs.BoundLaws.{responses_law}
use Rattle.ceiling_kernel.proofs.laws.responses_bound.Goals as goal

pub returns : goal.returns
returns c = responses_law
