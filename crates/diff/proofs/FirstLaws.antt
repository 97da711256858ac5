-- The first number below n that passes.
use Rattle.std.proofs.Common.{◌≡◌, ◌<◌, ℕ, zero, suc, inl, inr, Bool, true, Some, None, refl, arith}
use Rattle.std.proofs.lemmas.Bool.{cases_eq}
use Rattle.diff.specs.Whole.{first_below}

pub first_below-at : (n : ℕ) (test : ℕ → Bool) (k : ℕ) → k < n → test k ≡ true
    → first_below k test ≡ None → first_below n test ≡ Some k
first_below-at zero test k lt so none = absurd (omega arith)
first_below-at (suc n) test k lt so none =
    elim (cases_eq k n) [
      | inl e ↦
          let here : test n ≡ true = (rw e at so) in
          let before : first_below n test ≡ None = (rw e at none) in
          rw (before, here, e) refl
      | inr ne ↦ rw (first_below-at n test k (omega arith) so none) refl
    ]
