use Rattle.std.proofs.Common.{◌≡◌, max, drop}
use Rattle.observed.specs.Ranks.{ceiling_in}
use Rattle.observed.proofs.ranks.ceiling_in.Given as goal

abbrev pub invariant-loop-promise : goal.invariant-loop-promise
invariant-loop-promise l =
    max l.ceiling (ceiling_in l.set (drop l.promise-index l.promises) l.fn.lock)
    ≡ ceiling_in l.set l.promises l.fn.lock
