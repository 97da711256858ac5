use Rattle.std.proofs.Common.{◌≡◌, ◌+◌, ◌++◌, drop}
use Rattle.observed.specs.Promises.{levels_from}
use Rattle.observed.proofs.promises.levels_of.Given as goal

abbrev pub invariant-loop-below : goal.invariant-loop-below
invariant-loop-below l = l.numbers.items ++ levels_from (l.below + 1) (drop l.below l.places)
    ≡ levels_from 1 l.places
