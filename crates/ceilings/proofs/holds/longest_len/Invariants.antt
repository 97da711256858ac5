use Rattle.std.proofs.Common.{◌≤◌, take}
use Rattle.std.specs.Ordering.{nat_cmp}
use Rattle.std.specs.FinSet.{FinSet}
use Rattle.ceilings.specs.Holds.{longest_of}
use Rattle.ceilings.proofs.holds.longest_len.Given as goal

abbrev pub invariant-loop-hold : goal.invariant-loop-hold
invariant-loop-hold l = (members : FinSet nat_cmp)
    → longest_of (take l.hold-index l.holds) members ≤ l.longest
