use Rattle.std.proofs.Common.{ℕ, ◌<◌, IsTrue}
use Rattle.task_sheet.specs.Indexes.{indexes_of, without_index}
use Rattle.kept_order.specs.Keeping.{StandsKept}
use Rattle.kept_order.proofs.climbing.lowest.Given as goal

-- none before may stand
abbrev pub invariant-loop-task : goal.invariant-loop-task
invariant-loop-task l = (j : ℕ) → j < l.task → IsTrue (indexes_of l.left j)
    → ¬ StandsKept l.set l.kept j (without_index (indexes_of l.left) j)
