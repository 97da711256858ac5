use Rattle.least_chains.proofs.AboveLaws.{least_above-one}
use Rattle.least_chains.proofs.laws.least_above_is_one.Goals as goal

pub returns : goal.returns
returns c = least_above-one
