use Rattle.std.proofs.Common.{◌≡◌, ◌++◌, ◌+◌, ◌*◌, ◌^◌, ◌≤◌, length}
use Rattle.ceiling_kernel.specs.Tick.{node_in}
use Rattle.chains.specs.Parts.{afters_of, order_of, steps_of, time_in, walk_parts}
use Rattle.chains.proofs.bounds.push_walk.Given as goal

abbrev pub invariant-loop-task : goal.invariant-loop-task
invariant-loop-task l = record {
  parts : l.parts.items ++ walk_parts
      (steps_of l.writes l.known (node_in l.set (order_of l.levels)) (time_in l.levels) l.rest)
      (afters_of l.writes (node_in l.set (order_of l.levels)) (time_in l.levels) l.rest) l.time
      ≡ l.fn.parts.items ++ walk_parts
      (steps_of l.writes l.offsets (node_in l.set (order_of l.levels)) (time_in l.levels) l.tasks)
      (afters_of l.writes (node_in l.set (order_of l.levels)) (time_in l.levels) l.tasks) l.from;
  room : l.time + length l.rest * 2 ^ 65 ≤ 2 ^ 83 + length l.tasks * 2 ^ 65;
}

abbrev pub decreases-loop-task : goal.decreases-loop-task
decreases-loop-task l = length l.rest
