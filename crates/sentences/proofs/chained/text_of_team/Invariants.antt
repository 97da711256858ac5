use Rattle.std.proofs.Common.{length}
use Rattle.sentences.proofs.chained.text_of_team.Given as goal

abbrev pub decreases-loop-part : goal.decreases-loop-part
decreases-loop-part l = length l.rest
