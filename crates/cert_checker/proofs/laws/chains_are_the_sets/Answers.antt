use Rattle.cert_checker.proofs.SetChains.{set-chains}
use Rattle.cert_checker.proofs.laws.chains_are_the_sets.Goals as goal

pub returns : goal.returns
returns c = set-chains
