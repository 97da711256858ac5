use Rattle.std.proofs.Common.{ℕ, ◌<◌, IsTrue}
use Rattle.task_sheet.proofs.Common.{indexes_of, without_index, Stands}
use Rattle.assignment.proofs.placing.lowest.Given as goal

-- none before may stand
abbrev pub invariant-loop-task : goal.invariant-loop-task
invariant-loop-task l = (j : ℕ) → j < l.task → IsTrue (indexes_of l.left j)
    → ¬ Stands l.set j (without_index (indexes_of l.left) j)
