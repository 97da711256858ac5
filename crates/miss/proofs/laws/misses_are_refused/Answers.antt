use Rattle.miss.proofs.NoLaws.{refused_law}
use Rattle.miss.proofs.laws.misses_are_refused.Goals as goal

pub returns : goal.returns
returns c = λ node ok. refused_law node ok
