use Rattle.std.proofs.Common.{◌≡◌, take}
use Rattle.task_sheet.specs.Indexes.{among, indexes_of}
use Rattle.assignment.proofs.members.members_of.Given as goal

abbrev pub invariant-loop-task : goal.invariant-loop-task
invariant-loop-task l = indexes_of l.members ≡ among (take l.task-index l.tasks)
