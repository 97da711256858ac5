use Rattle.kept_beside.proofs.CaseLaws.{beside}
use Rattle.kept_beside.proofs.laws.simulated_runs_are_beside.Goals as goal

pub returns : goal.returns
returns c = λ U numbers places lines rise run. beside run numbers rise
