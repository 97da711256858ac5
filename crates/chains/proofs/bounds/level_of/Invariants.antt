use Rattle.std.proofs.Common.{◌≡◌, ◌+◌, drop}
use Rattle.ceiling_kernel.specs.Tick.{level_from}
use Rattle.chains.specs.Parts.{order_of}
use Rattle.chains.proofs.bounds.level_of.Given as goal

abbrev pub invariant-loop-i : goal.invariant-loop-i
invariant-loop-i l =
    level_from (l.i + 1) (order_of (drop l.i l.levels)) l.task ≡ level_from 1 (order_of l.levels) l.task
