use Rattle.task_sheet.proofs.Common.{indexes_of, must_outrank}
use Rattle.std.proofs.Common.{ℕ, ◌<◌, IsTrue, IsFalse}
use Rattle.assignment.proofs.outcome.least_over.Given as goal

abbrev pub invariant-loop-other : goal.invariant-loop-other
invariant-loop-other l = (j : ℕ) → j < l.other → IsTrue (indexes_of l.above j)
    → IsFalse (must_outrank l.set l.task j)
