use Rattle.chains.proofs.BackLaws.{stands_law}
use Rattle.chains.proofs.laws.ages_are_reactions.Goals as goal

pub returns : goal.returns
returns c = stands_law
