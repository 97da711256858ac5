use Rattle.chains.proofs.ReactionLaws.{reactions_law, acted_law}
use Rattle.chains.proofs.laws.reactions_hold.Goals as goal

pub returns : goal.returns
returns c = record { bound = reactions_law; samples = acted_law }
