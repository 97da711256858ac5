use Rattle.std.proofs.Common.{ℕ, List, ◌++◌, length}
use Rattle.least_chains.specs.LeastBound.{AreLeastParts}
use Rattle.least_chains.proofs.least.least_parts.Given as goal

-- those of the tasks that are left go on with these
abbrev pub invariant-loop-task : goal.invariant-loop-task
invariant-loop-task l = (more : List ℕ) → AreLeastParts l.writes l.set l.rest more
    → AreLeastParts l.writes l.set l.tasks (l.parts.items ++ more)

abbrev pub decreases-loop-task : goal.decreases-loop-task
decreases-loop-task l = length l.rest
