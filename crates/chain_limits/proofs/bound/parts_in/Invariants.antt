use Rattle.std.proofs.Common.{◌≡◌, ◌++◌, List, length}
use Rattle.chains.specs.Parts.{order_of}
use Rattle.chains.specs.declared.bounds.Level.{Level}
use Rattle.least_chains.specs.LeastBound.{ArePassing, parts_in}
use Rattle.chain_limits.proofs.bound.parts_in.Given as goal

-- those of the tasks that are left go on with these
abbrev pub invariant-loop-task : goal.invariant-loop-task
invariant-loop-task l = (levels : List Level) → ArePassing l.set levels → order_of levels ≡ l.order
    → l.parts.items ++ parts_in l.writes l.set levels l.rest ≡ parts_in l.writes l.set levels l.tasks

abbrev pub decreases-loop-task : goal.decreases-loop-task
decreases-loop-task l = length l.rest
