use Rattle.miss.proofs.CompleteLaws.{complete_law}
use Rattle.miss.proofs.laws.worst_case_misses.Goals as goal

pub returns : goal.returns
returns c = λ node ok. complete_law node ok
