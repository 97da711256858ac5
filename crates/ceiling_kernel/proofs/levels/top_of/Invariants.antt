use Rattle.std.proofs.Common.{◌≡◌, max, drop}
use Rattle.ceiling_kernel.specs.Tick.{node_in, top_ceiling}
use Rattle.ceiling_kernel.proofs.levels.top_of.Given as goal

abbrev pub invariant-loop-lock : goal.invariant-loop-lock
invariant-loop-lock l = max l.top (top_ceiling (node_in l.set l.order) (drop l.lock-index l.locks))
    ≡ top_ceiling (node_in l.set l.order) l.locks
