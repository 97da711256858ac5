-- What is to do of a window falls by at most one a tick, over any machine that executes one job a
-- tick.
use Rattle.std.proofs.Common.{ℕ, zero, suc, ◌+◌, ◌<◌, ◌≤◌, ◌≡◌, ◌≢◌, inl, inr, refl, sym, ap, subst}
use Rattle.std.proofs.Common.{arith, Bool, Option, Some, None, nat_le, nat_lt, ◌&&◌}
use Rattle.std.proofs.lemmas.Bool.{cases_eq, cases_Bool}
use Rattle.ceiling_kernel.proofs.SumLaws.{total, total-le}
use Rattle.ceiling_kernel.proofs.Busy.{IsMachine, to_do}

-- where one term alone is more, by one at most, so is the sum
pub total-step : (f g : ℕ → ℕ) (n p : ℕ) → ((j : ℕ) → j < n → j ≢ p → f j ≤ g j) → f p ≤ suc (g p)
    → total f n ≤ suc (total g n)
unfolding total
total-step f g zero p h one = omega arith
total-step f g (suc n) p h one =
    elim (cases_eq n p) [
      | inl e ↦
          let before = total-le f g n (λ j lt. h j (omega arith) (λ same. absurd (omega arith))) in
          let here = subst (λ x. f x ≤ suc (g x)) (sym e) one in
          omega arith
      | inr ne ↦
          let before = total-step f g n p (λ j lt differ. h j (omega arith) differ) one in
          let here = h n (omega arith) ne in
          omega arith
    ]

-- a sum above 0 has a term above 0
pub total-some : (f : ℕ → ℕ) (n : ℕ) → 0 < total f n → (p : ℕ) × (p < n) × (0 < f p)
unfolding total
total-some f zero h = absurd (omega arith)
total-some f (suc n) h =
    elim (cases_eq (f n) 0) [
      | inl none ↦ let found = total-some f n (omega arith) in
          (found.0, omega (arith, found.1), found.2)
      | inr some ↦ (n, omega arith, omega arith)
    ]

module _ (n : ℕ) (ready cost : ℕ → ℕ) (high : ℕ → Bool) (rest : ℕ → ℕ → ℕ) (done : ℕ → ℕ → ℕ)
    (run : ℕ → Option ℕ) (machine : IsMachine n ready cost high rest done run) where
  abbrev left : ℕ → ℕ → ℕ → ℕ → ℕ
  left a b u j = to_do n ready cost high rest done run machine a b u j

  same_left : (a b u j : ℕ) → done (suc u) j ≡ done u j → left a b u j ≤ left a b (suc u) j
  same_left a b u j e = rw e (omega arith)

  own_left : (a b u p : ℕ) → done (suc u) p ≡ suc (done u p)
      → left a b u p ≤ suc (left a b (suc u) p)
  own_left a b u p e =
      elim (cases_Bool (high p)) [
        | inl is_high ↦ elim (cases_Bool (nat_le a (ready p) && nat_lt (ready p) b)) [
          | inl in_window ↦ rw (is_high, in_window) (omega arith)
          | inr outside ↦ rw (is_high, outside) (omega arith)
        ]
        | inr is_low ↦ elim (cases_eq (rest p (done u p)) 0) [
          | inl none ↦ rw is_low (omega arith)
          | inr some ↦
              let next = machine.rest_next p (done u p) (omega arith) in
              let same = ap (rest p) e in
              rw is_low (omega arith)
        ]
      ]

  one_tick : (a b u : ℕ) → total (left a b u) n ≤ suc (total (left a b (suc u)) n)
  one_tick a b u =
      elim (run u) as (λ r. run u ≡ r → total (left a b u) n ≤ suc (total (left a b (suc u)) n)) [
        | None ↦ λ e. (
            let same = total-le (left a b u)
            (left a b (suc u)) n (λ j lt. same_left a b u j (machine.when_idle u j e)) in
            omega arith)
        | Some p ↦ λ e.
            total-step (left a b u) (left a b (suc u)) n p
            (λ j lt ne. same_left a b u j (machine.of_other u p j e ne))
            (own_left a b u p (machine.of_picked u p e))
      ] refl

  pub ticks : (a b u m : ℕ) → total (left a b u) n ≤ m + total (left a b (u + m)) n
  ticks a b u zero =
      let same : total (left a b u) n ≡ total (left a b (u + 0)) n =
      ap (λ x. total (left a b x) n) (omega arith) in
      omega arith
  ticks a b u (suc m) =
      let before = ticks a b u m in
      let step = one_tick a b (u + m) in
      let same : total (left a b (suc (u + m))) n ≡ total (left a b (u + suc m)) n =
      ap (λ x. total (left a b x) n) (omega arith) in
      omega arith
