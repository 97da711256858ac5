use Rattle.std.proofs.Common.{ℕ, ◌<◌, get_or}
use Rattle.ceiling_kernel.specs.Tick.{node_in}
use Rattle.miss.specs.Shown.{PassesThere}
use Rattle.miss.proofs.reason.fails_above.Given as goal

abbrev pub invariant-loop-higher : goal.invariant-loop-higher
invariant-loop-higher l = (q : ℕ) → q < l.higher-index
    → PassesThere (node_in l.set l.order) (get_or l.higher-items q 0)
