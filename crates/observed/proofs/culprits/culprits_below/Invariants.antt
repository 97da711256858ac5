use Rattle.std.proofs.Common.{◌≡◌}
use Rattle.observed.specs.Culprits.{culprits_below}
use Rattle.observed.proofs.culprits.culprits_below.Given as goal

abbrev pub invariant-loop-below : goal.invariant-loop-below
invariant-loop-below l =
    l.culprits.items ≡ culprits_below l.promises l.from l.to l.pieces l.below
