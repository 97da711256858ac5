use Rattle.std.proofs.Common.{length}
use Rattle.chain_worst.proofs.AimLaws.{AreSoFar}
use Rattle.chain_worst.proofs.aims.aims_of.Given as goal

abbrev pub invariant-loop-step : goal.invariant-loop-step
invariant-loop-step l =
    AreSoFar l.set l.levels l.steps l.begin l.tasks l.walk l.time l.rest l.aims.items

abbrev pub decreases-loop-step : goal.decreases-loop-step
decreases-loop-step l = length l.walk
