use Rattle.kept_beside.proofs.RunLaws.{keeps_beside}
use Rattle.kept_beside.proofs.laws.demand_is_kept_beside.Goals as goal

pub returns : goal.returns
returns c = λ U numbers places lines run. keeps_beside run
