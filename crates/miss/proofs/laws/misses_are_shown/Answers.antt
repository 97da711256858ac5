use Rattle.miss.proofs.ShownLaws.{shown_law}
use Rattle.miss.proofs.laws.misses_are_shown.Goals as goal

pub returns : goal.returns
returns c = λ node i s. shown_law node i s
