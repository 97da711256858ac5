use Rattle.chains.proofs.LongestLaws.{no_longer_law}
use Rattle.chains.proofs.laws.no_longer_steps.Goals as goal

pub returns : goal.returns
returns c = no_longer_law
