use Rattle.interrupted_runs.proofs.LateLaws.{as_ruled_law}
use Rattle.interrupted_runs.proofs.laws.without_interrupts_as_ruled.Goals as goal

pub returns : goal.returns
returns c = as_ruled_law
