use Rattle.std.proofs.Common.{ℕ, ◌<◌}
use Rattle.task_sheet.specs.Indexes.{indexes_of}
use Rattle.least_chains.specs.LeastAbove.{IsOtherBelow}
use Rattle.least_chains.proofs.above.other_below.Given as goal

-- none before may stand
abbrev pub invariant-loop-other : goal.invariant-loop-other
invariant-loop-other l = (j : ℕ) → j < l.other → ¬ IsOtherBelow l.set (indexes_of l.left) l.task j
