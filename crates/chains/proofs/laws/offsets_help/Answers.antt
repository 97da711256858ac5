use Rattle.chains.proofs.OffsetLaws.{offsets_law, steady_bound_law}
use Rattle.chains.proofs.laws.offsets_help.Goals as goal

pub returns : goal.returns
returns c = record { steady = steady_bound_law; known = offsets_law }
