use Rattle.std.proofs.Common.{◌≡◌, ◌++◌, length}
use Rattle.ceiling_kernel.specs.Tick.{node_in}
use Rattle.chains.specs.Parts.{order_of, steps_of, time_in}
use Rattle.chains.proofs.bounds.steps_of.Given as goal

abbrev pub invariant-loop-task : goal.invariant-loop-task
invariant-loop-task l =
    l.steps.items ++ steps_of l.writes l.known (node_in l.set (order_of l.levels)) (time_in l.levels) l.rest
    ≡ steps_of l.writes l.offsets (node_in l.set (order_of l.levels)) (time_in l.levels) l.tasks

abbrev pub decreases-loop-task : goal.decreases-loop-task
decreases-loop-task l = length l.rest
