use Rattle.least_chains.proofs.BoundLaws.{best-passing}
use Rattle.least_chains.proofs.laws.best_is_passing.Goals as goal

pub returns : goal.returns
returns c = best-passing
