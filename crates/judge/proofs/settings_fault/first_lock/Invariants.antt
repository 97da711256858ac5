use Rattle.std.proofs.Common.{◌≡◌, ℕ, Bool, List, drop}
use Rattle.std.specs.List.{find}
use Rattle.ceilings.specs.IsTableOf.{locks_of}
use Rattle.judge.proofs.settings_fault.first_lock.Given as goal

abbrev pub invariant-loop-place : goal.invariant-loop-place
invariant-loop-place g l = (passes : List ℕ → Bool)
    → ((lock : List ℕ) (answer : Bool) → goal.F-post g l.fn.test lock answer → answer ≡ passes lock)
    → find passes (drop l.place (locks_of l.set)) ≡ find passes (locks_of l.set)
