use Rattle.miss.proofs.WorstLaws.{comes_law, misses_law}
use Rattle.miss.proofs.laws.worst_comes.Goals as goal

pub returns : goal.returns
returns c = record { comes = comes_law; misses = misses_law }
