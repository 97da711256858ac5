use Rattle.chain_runs.proofs.ReactionLaws.{reactions_reached, slower_law}
use Rattle.chain_runs.proofs.laws.reactions_are_greatest.Goals as goal

pub returns : goal.returns
returns c = record { slower = slower_law; reached = reactions_reached }
