use Rattle.std.proofs.Common.{◌≡◌, ◌++◌, map, drop}
use Rattle.explain.specs.Parts.{above_at}
use Rattle.explain.proofs.parts.above_parts.Given as goal

abbrev pub invariant-loop-task : goal.invariant-loop-task
invariant-loop-task l = l.above.items ++ map (above_at l.set l.time) (drop l.task-index l.order)
    ≡ map (above_at l.set l.time) l.order
