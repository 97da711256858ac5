use Rattle.std.proofs.Common.{◌≡◌, ◌++◌, drop}
use Rattle.std.specs.Prelude.{map}
use Rattle.observed.proofs.promises.shared.Given as goal

abbrev pub invariant-loop-promise : goal.invariant-loop-promise
invariant-loop-promise l =
    map (λ s. s.value) l.shared.items ++ drop l.promise-index l.promises ≡ l.promises
