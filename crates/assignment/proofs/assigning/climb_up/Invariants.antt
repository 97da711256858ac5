use Rattle.std.proofs.Common.{◌≡◌}
use Rattle.assignment.proofs.StepLaws.{steps_left}
use Rattle.assignment.proofs.assigning.climb_up.Given as goal

abbrev pub invariant-loop-alloc : goal.invariant-loop-alloc
invariant-loop-alloc l = l.climb.set ≡ l.fn.climb.set

abbrev pub decreases-loop-alloc : goal.decreases-loop-alloc
decreases-loop-alloc l = steps_left l.climb
