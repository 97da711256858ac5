use Rattle.overheads.proofs.RuleLaws.{ruled-demand}
use Rattle.overheads.proofs.laws.padded_demand_is_by_rule.Goals as goal

pub returns : goal.returns
returns c = λ node xs U i H t ruled. ruled-demand node xs U i H t ruled
