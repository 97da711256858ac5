use Rattle.std.proofs.Common.{◌≡◌, take}
use Rattle.chains.specs.Parts.{order_of}
use Rattle.chain_worst.proofs.shown.order_of.Given as goal

abbrev pub invariant-loop-level : goal.invariant-loop-level
invariant-loop-level l = l.order.items ≡ order_of (take l.level-index l.levels)
