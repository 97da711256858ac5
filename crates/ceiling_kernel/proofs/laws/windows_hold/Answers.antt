use Rattle.ceiling_kernel.proofs.BoundLaws.{windows_law}
use Rattle.ceiling_kernel.proofs.laws.windows_hold.Goals as goal

pub returns : goal.returns
returns c = windows_law
