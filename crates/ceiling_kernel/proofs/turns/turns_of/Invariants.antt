use Rattle.std.proofs.Common.{◌≡◌, take}
use Rattle.ceiling_kernel.proofs.SortLaws.{listed_turns}
use Rattle.ceiling_kernel.proofs.turns.turns_of.Given as goal

abbrev pub invariant-loop-k : goal.invariant-loop-k
invariant-loop-k l = l.turns.items ≡ listed_turns 0 (take l.k l.releases)
