use Rattle.chain_runs.proofs.AgeLaws.{older_law}
use Rattle.chain_runs.proofs.ReactionLaws.{ages_reached}
use Rattle.chain_runs.proofs.laws.ages_are_greatest.Goals as goal

pub returns : goal.returns
returns c = record { older = older_law; reached = ages_reached }
