use Rattle.std.proofs.Common.{ℕ, ◌<◌, IsFalse}
use Rattle.std.specs.FinSet.{contains}
use Rattle.desk_core.proofs.trial.least.Given as goal

abbrev pub invariant-loop-i : goal.invariant-loop-i
invariant-loop-i l = (j : ℕ) → j < l.i → IsFalse (contains l.members j)
