use Rattle.chain_runs.proofs.StrayLaws.{strays_law}
use Rattle.chain_runs.proofs.laws.strays_are_told.Goals as goal

pub returns : goal.returns
returns c = strays_law
