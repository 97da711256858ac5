use Rattle.std.proofs.Common.{ℕ, ◌<◌, IsFalse}
use Rattle.task_sheet.specs.Indexes.{indexes_of}
use Rattle.worst_lines.proofs.deciding.first_left.Given as goal

abbrev pub invariant-loop-task : goal.invariant-loop-task
invariant-loop-task l = (j : ℕ) → j < l.task → IsFalse (indexes_of l.left j)
