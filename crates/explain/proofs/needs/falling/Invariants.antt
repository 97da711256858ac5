use Rattle.std.proofs.Common.{◌≡◌}
use Rattle.task_sheet.specs.Indexes.{indexes_of, listed_below}
use Rattle.explain.proofs.needs.falling.Given as goal

abbrev pub invariant-loop-task : goal.invariant-loop-task
invariant-loop-task l = l.order.items ≡ listed_below l.task (indexes_of l.tasks)
