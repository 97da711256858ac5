use Rattle.std.proofs.Common.{◌≡◌, ◌+◌, drop}
use Rattle.ceiling_kernel.specs.Tick.{level_from}
use Rattle.ceiling_kernel.proofs.levels.level_of.Given as goal

abbrev pub invariant-loop-place : goal.invariant-loop-place
invariant-loop-place l =
    level_from (l.place + 1) (drop l.place l.order) l.index ≡ level_from 1 l.order l.index
