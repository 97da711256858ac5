use Rattle.ceiling_kernel.proofs.BoundLaws.{tighter_law}
use Rattle.miss.proofs.ExactLaws.{exact_law}
use Rattle.miss.proofs.laws.is_met_exactly.Goals as goal

pub returns : goal.returns
returns c = record { exact = exact_law; bound = tighter_law }
