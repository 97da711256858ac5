use Rattle.std.proofs.Common.{length}
use Rattle.sentences.proofs.gathered.first_sought.Given as goal

abbrev pub decreases-loop-rest : goal.decreases-loop-rest
decreases-loop-rest l = length l.rest
