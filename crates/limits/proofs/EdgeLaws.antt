-- Where a test stops to hold is the last number at which something holds that holds at all lesser ones, too.
use Rattle.std.proofs.Common.{◌≡◌, ◌↔◌, refl, true, false, ℕ, ◌+◌, ◌<◌, ◌≤◌, Bool, IsTrue, inl, inr, arith}
use Rattle.std.proofs.lemmas.Bool.{both_ways, cases_lt}
use Rattle.limits.specs.Bisection.{IsEdge}

pub last-edge : (Says : ℕ → Bool → Type 0) (Holds : ℕ → Type 0) (known end edge : ℕ)
    → IsEdge Says known end edge → Holds known
    → ((n : ℕ) (answer : Bool) → known < n → n < end → Says n answer → IsTrue answer ↔ Holds n)
    → ((low high : ℕ) → known ≤ low → low ≤ high → high < end → Holds high → Holds low)
    → Holds edge × ((more : ℕ) → edge < more → more < end → ¬ Holds more)
last-edge Says Holds known end edge is here says less = (
  elim (cases_lt known edge) [
    | inl lt ↦ (says edge true lt is.before (is.holds lt)).0 refl
    | inr le ↦ let same : edge ≡ known = omega (arith, le, is.from) in rw same here
  ],
  λ more past within holds.
      let next : edge + 1 < end = omega (arith, past, within) in
      both_ways false refl ((says (edge + 1) false (omega (arith, is.from)) next (is.fails next)).1
      (less (edge + 1) more (omega (arith, is.from)) (omega (arith, past)) within holds)),
)
