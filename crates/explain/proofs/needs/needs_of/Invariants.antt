use Rattle.task_sheet.specs.Indexes.{indexes_of, listed_below}
use Rattle.explain.specs.Needs.{AreNeedsOf}
use Rattle.explain.proofs.needs.needs_of.Given as goal

abbrev pub invariant-loop-task : goal.invariant-loop-task
invariant-loop-task l = AreNeedsOf l.set (indexes_of l.conflict)
    (listed_below l.task (indexes_of l.conflict)) l.needs.items
