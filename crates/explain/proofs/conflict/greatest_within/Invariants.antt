use Rattle.std.specs.FinSet as members
use Rattle.task_sheet.specs.Indexes.{indexes_of}
use Rattle.explain.proofs.ConflictLaws.{IsPeeled}
use Rattle.explain.proofs.conflict.greatest_within.Given as goal

abbrev pub invariant-loop-task : goal.invariant-loop-task
invariant-loop-task l = IsPeeled l.set (indexes_of l.fn.tasks) (indexes_of l.left)

abbrev pub decreases-loop-task : goal.decreases-loop-task
decreases-loop-task l = members.len l.left
