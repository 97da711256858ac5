use Rattle.chains.proofs.AgeLaws.{ages_law, fresh_law}
use Rattle.chains.proofs.laws.ages_hold.Goals as goal

pub returns : goal.returns
returns c = record { bound = ages_law; fresh = fresh_law }
