use Rattle.miss.proofs.NoLaws.{no_law}
use Rattle.miss.proofs.laws.no_is_shown.Goals as goal

pub returns : goal.returns
returns c = λ node ok. no_law node ok
