use Rattle.miss.proofs.CompleteLaws.{reaches_law}
use Rattle.miss.proofs.laws.worst_case_reaches.Goals as goal

pub returns : goal.returns
returns c = λ node ok. reaches_law node ok
