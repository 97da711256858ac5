use Rattle.std.proofs.Common.{◌≡◌, length}
use Rattle.ceiling_kernel.specs.Bounds.{after_of}
use Rattle.ceiling_kernel.proofs.orders.above.Given as goal

abbrev pub invariant-loop-lowest : goal.invariant-loop-lowest
invariant-loop-lowest l = after_of l.rest l.task ≡ after_of l.order l.task

abbrev pub decreases-loop-lowest : goal.decreases-loop-lowest
decreases-loop-lowest l = length l.rest
