use Rattle.std.proofs.Common.{◌≡◌, ◌++◌, drop}
use Rattle.drawn_ways.specs.Legs.{back}
use Rattle.drawn_ways.specs.Sources.{outputs_in}
use Rattle.drawn_ways.proofs.legs.back.Given as goal

abbrev pub invariant-loop-task : goal.invariant-loop-task
invariant-loop-task l =
    l.legs.items ++ back (outputs_in l.source) (drop l.task-index l.tasks) l.time
    ≡ back (outputs_in l.source) l.tasks l.fn.time
