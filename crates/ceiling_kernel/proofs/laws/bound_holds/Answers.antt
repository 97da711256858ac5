use Rattle.ceiling_kernel.proofs.BoundLaws.{bound_law, tighter_law, no_overrun_law}
use Rattle.ceiling_kernel.proofs.laws.bound_holds.Goals as goal

pub returns : goal.returns
returns c = record { bound = bound_law; tighter = tighter_law; no_overrun = no_overrun_law }
