use Rattle.task_sheet.specs.Indexes.{indexes_of}
use Rattle.explain.specs.Conflict.{IsLeftOf}
use Rattle.explain.proofs.conflict.least_conflict.Given as goal

abbrev pub invariant-loop-task : goal.invariant-loop-task
invariant-loop-task l = IsLeftOf l.set (indexes_of l.fn.obstruction) l.task (indexes_of l.conflict)
