use Rattle.std.proofs.Common.{◌≡◌, take}
use Rattle.task_sheet.specs.Indexes.{among, indexes_of}
use Rattle.task_sheet.specs.Verdicts.{tasks_of}
use Rattle.drafts.proofs.judging.members_of.Given as goal

abbrev pub invariant-loop-failure : goal.invariant-loop-failure
invariant-loop-failure l = indexes_of l.members ≡ among (take l.failure-index (tasks_of l.fails))
