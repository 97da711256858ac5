use Rattle.std.proofs.Common.{◌≡◌, max, drop}
use Rattle.ceilings.specs.Holds.{longest_of}
use Rattle.ceilings.proofs.holds.longest_of.Given as goal

abbrev pub invariant-loop-hold : goal.invariant-loop-hold
invariant-loop-hold l =
    max l.longest (longest_of (drop l.hold-index l.holds) l.members) ≡ longest_of l.holds l.members
