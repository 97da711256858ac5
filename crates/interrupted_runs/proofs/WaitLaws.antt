-- While a high job is open, low jobs execute no more than what is left of a section: over any machine that executes one job a
-- tick.
use Rattle.std.proofs.Common.{ℕ, zero, suc, ◌+◌, ◌<◌, ◌≤◌, ◌≡◌, ◌≢◌, inl, inr, refl, sym, ap, ◌∙◌, arith}
use Rattle.std.proofs.Common.{Bool, true, cond, Option, Some, None, add-zero, add-suc}
use Rattle.std.proofs.lemmas.Bool.{cases_eq, cases_Bool, true≢false}
use Rattle.ceiling_kernel.proofs.SumLaws.{total, total-le, total-lt, total-one}
use Rattle.ceiling_kernel.proofs.Busy.{IsMachine, one_inside}

module _ (n : ℕ) (ready cost : ℕ → ℕ) (high : ℕ → Bool) (rest : ℕ → ℕ → ℕ) (done : ℕ → ℕ → ℕ)
    (run : ℕ → Option ℕ) (machine : IsMachine n ready cost high rest done run) where
  -- a tick of a low job
  abbrev pub low_hit : Option ℕ → ℕ
  low_hit None = 0
  low_hit (Some p) = cond (high p) 0 1

  low_hit-le : (o : Option ℕ) → low_hit o ≤ 1
  low_hit-le None = omega arith
  low_hit-le (Some p) = elim (cases_Bool (high p)) [
    | inl t ↦ rw t (omega arith)
    | inr f ↦ rw f (omega arith)
  ]

  -- what is left of sections
  abbrev all_left : ℕ → ℕ
  all_left t = total (λ k. rest k (done t k)) n

  low_tick : (j u : ℕ) → j < n → high j ≡ true → ready j ≤ u → done u j < cost j
      → low_hit (run u) + all_left (suc u) ≤ all_left u
  low_tick j u lt up ready_then open_ =
      let w = machine.works u j lt ready_then open_ in
      let p : ℕ = w.0 in
      let hot = machine.hot_first u p j w.1 lt ready_then open_ (inl up) in
      let more : done (suc u) p ≡ suc (done u p) = machine.of_picked u p w.1 in
      let others : (k : ℕ) → k ≢ p → rest k (done (suc u) k) ≡ rest k (done u k) =
      λ k ne. ap (rest k) (machine.of_other u p k w.1 ne) in
      elim (cases_Bool (high p)) [
        | inl is_high ↦
            let none : low_hit (run u) ≡ 0 = ap low_hit w.1 ∙ rw is_high refl in
            let gone = machine.rest_low p (done (suc u) p) is_high in
            let same = total-le (λ k. rest k (done (suc u) k)) (λ k. rest k (done u k)) n
            (λ k within. elim (cases_eq k p) [
              | inl e ↦ rw e (omega (arith, gone))
              | inr ne ↦ omega (arith, others k ne)
            ]) in
            omega (arith, same, none)
        | inr is_low ↦
            let inside : 0 < rest p (done u p) =
            elim hot [ inl up ↦ absurd (true≢false (sym up ∙ is_low)) | inr in_ ↦ in_ ] in
            let next = machine.rest_next p (done u p) inside in
            let moved = ap (rest p) more in
            let less = total-lt (λ k. rest k (done (suc u) k)) (λ k. rest k (done u k)) n p
            (machine.picked_exists u p w.1) (omega (arith, next, moved))
            (λ k within. elim (cases_eq k p) [
              | inl e ↦ rw e (omega (arith, next, moved))
              | inr ne ↦ omega (arith, others k ne)
            ]) in
            omega (arith, less, low_hit-le (run u))
      ]

  low_ticks : (j a t : ℕ) → j < n → high j ≡ true → ready j ≤ a
      → ((u : ℕ) → u < a + t → done u j < cost j)
      → total (λ s. low_hit (run (a + s))) t + all_left (a + t) ≤ all_left a
  unfolding total
  low_ticks j a zero lt up ready_then lacks = rw add-zero (omega arith)
  low_ticks j a (suc t) lt up ready_then lacks =
      let before = low_ticks j a t lt up ready_then (λ u early. lacks u (omega arith)) in
      let tick = low_tick j (a + t) lt up (omega arith) (lacks (a + t) (omega arith)) in
      rw add-suc (omega (arith, before, tick))

  -- of all of them one is inside of a section at most
  pub low_most : (blocked : ℕ) → ((j e : ℕ) → rest j e ≤ blocked) → (j a t : ℕ) → j < n
      → high j ≡ true → ready j ≤ a → ((u : ℕ) → u < a + t → done u j < cost j)
      → total (λ s. low_hit (run (a + s))) t ≤ blocked
  low_most blocked most j a t lt up ready_then lacks =
      omega (
        arith,
        low_ticks j a t lt up ready_then lacks,
        total-one (λ k. rest k (done a k)) n blocked (λ k within. most k (done a k))
            (one_inside n ready cost high rest done run machine a),
      )
