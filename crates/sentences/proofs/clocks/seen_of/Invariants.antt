use Rattle.std.proofs.Common.{length}
use Rattle.sentences.proofs.clocks.seen_of.Given as goal

abbrev pub decreases-loop-part : goal.decreases-loop-part
decreases-loop-part l = length l.rest
