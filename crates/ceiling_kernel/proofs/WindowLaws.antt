-- How many jobs of one task become ready in a window, and what they cost together.
use Rattle.std.proofs.Common.{ℕ, zero, suc, ◌+◌, ◌-◌, ◌*◌, ◌/◌, ◌<◌, ◌≤◌, ◌≡◌, ◌⊎◌, inl, inr, refl}
use Rattle.std.proofs.Common.{sym, ◌∙◌, arith, if◌then◌else◌, Bool, true, ◌==◌, ◌&&◌, cond}
use Rattle.std.proofs.Common.{ap₂, add-zero}
use Rattle.std.proofs.lemmas.Bool.{cases_eq, cases_Bool, eq-eqb, ne_eqb}
use Rattle.std.proofs.lemmas.Nat.{le-div}
use Rattle.ceiling_kernel.proofs.SumLaws.{total, total-add, total-same, total-single, total-zero}

-- The jobs below n by their tasks and arrivals; in j: the job counts.
-- Those that count and are of the task h number `counted h n`.
module _ (task arrival : ℕ → ℕ) (counts : ℕ → Bool) where
  abbrev pub of_task : ℕ → ℕ → ℕ
  of_task h j = if counts j && (task j == h) then 1 else 0

  of_task_cases : (h j : ℕ) → ((of_task h j ≡ 0))
      ⊎ ((of_task h j ≡ 1) × (counts j ≡ true) × (task j ≡ h))
  of_task_cases h j =
      elim (cases_Bool (counts j)) [
        | inl c ↦ elim (cases_eq (task j) h) [
          | inl e ↦ inr (rw (c, eq-eqb (task j) h e), c, e)
          | inr ne ↦ inl (rw (c, ne_eqb (task j) h ne))
        ]
        | inr no_count ↦ inl (rw no_count)
      ]

  -- Where those of task h that count arrive at `from` or later and at least `period` apart, and the period after each ends by `by`, the periods fit between.
  spread : (h from period n by : ℕ) →
      ((j : ℕ) → j < n → counts j ≡ true → task j ≡ h → from ≤ arrival j) →
      ((j k : ℕ) → j < k → k < n → counts k ≡ true → task j ≡ h → task k ≡ h
      → arrival j + period ≤ arrival k) →
      ((j : ℕ) → j < n → counts j ≡ true → task j ≡ h → arrival j + period ≤ by) →
      (total (of_task h) n ≡ 0) ⊎ (total (of_task h) n * period + from ≤ by)
  unfolding total
  spread h from period zero by starts apart ends = inl refl
  spread h from period (suc n) by starts apart ends =
      elim (of_task_cases h n) [
        | inl none ↦
            elim (spread h from period n by (λ j lt. starts j (omega arith))
            (λ j k jk lt. apart j k jk (omega arith)) (λ j lt. ends j (omega arith))) [
              | inl zero_before ↦ inl (omega arith)
              | inr fits ↦ inr (rw none (simp add-zero fits))
            ]
        | inr one ↦
            let here : arrival n + period ≤ by = ends n (omega arith) one.1 one.2 in
            let from_here : from ≤ arrival n = starts n (omega arith) one.1 one.2 in
            let is_one : of_task h n ≡ 1 = one.0 in
            elim (spread h from period n (arrival n) (λ j lt. starts j (omega arith))
            (λ j k jk lt. apart j k jk (omega arith))
            (λ j lt c t. apart j n lt (omega arith) one.1 t one.2)) [
              | inl zero_before ↦ inr (rw (is_one, zero_before) (omega arith))
              | inr fits ↦
                  let product : (total (of_task h) n + 1) * period
                  ≡ total (of_task h) n * period + period = omega arith in
                  inr (rw (is_one, product) (omega arith))
            ]
      ]

  -- so they are at most the window's length over the period, rounded up
  pub most_in_window : (h from w period n : ℕ) → 0 < period → 0 < w →
      ((j : ℕ) → j < n → counts j ≡ true → task j ≡ h → from ≤ arrival j) →
      ((j k : ℕ) → j < k → k < n → counts k ≡ true → task j ≡ h → task k ≡ h
      → arrival j + period ≤ arrival k) →
      ((j : ℕ) → j < n → counts j ≡ true → task j ≡ h → arrival j < from + w) →
      total (of_task h) n ≤ (w + period - 1) / period
  most_in_window h from w period n some wide starts apart ends =
      elim (spread h from period n (from + w - 1 + period) starts apart
      (λ j lt c t. omega (arith, ends j lt c t))) [
        | inl none ↦ rw none (omega arith)
        | inr fits ↦ le-div (total (of_task h) n) (w + period - 1) period some (omega arith)
      ]

  -- the cost of those that count is the sum over the tasks of how many there are, times the cost of one
  pub by_tasks : (cost : ℕ → ℕ) (m n : ℕ) → ((j : ℕ) → j < n → counts j ≡ true → task j < m) →
      total (λ j. if counts j then cost (task j) else 0) n
      ≡ total (λ h. total (of_task h) n * cost h) m
  unfolding total
  by_tasks cost m zero known = sym (total-zero (λ h. 0 * cost h) m (λ h lt. omega arith))
  by_tasks cost m (suc n) known =
      let before = by_tasks cost m n (λ j lt. known j (omega arith)) in
      let split = total-same (λ h. (total (of_task h) n + of_task h n) * cost h)
      (λ h. total (of_task h) n * cost h + of_task h n * cost h) m (λ h lt. omega arith) in
      let parts = total-add (λ h. total (of_task h) n * cost h) (λ h. of_task h n * cost h) m in
      let last : total (λ h. of_task h n * cost h) m ≡ cond (counts n) (cost (task n)) 0 =
      elim (cases_Bool (counts n)) [
        | inl c ↦
            let single = total-single cost m (task n) (known n (omega arith) c) in
            let same = total-same (λ h. of_task h n * cost h)
            (λ h. if task n == h then cost h else 0) m
            (λ h lt. elim (cases_Bool (task n == h)) [
              | inl t ↦ rw (c, t) (omega arith)
              | inr t ↦ rw (c, t) (omega arith)
            ]) in
            let right : cond (counts n) (cost (task n)) 0 ≡ cost (task n) = rw c in
            same ∙ (single ∙ sym right)
        | inr no_count ↦
            let right : cond (counts n) (cost (task n)) 0 ≡ 0 = rw no_count in
            total-zero (λ h. of_task h n * cost h) m (λ h lt. rw no_count (omega arith)) ∙ sym right
      ] in
      ap₂ (λ x y. x + y) before (sym last) ∙ sym (split ∙ parts)
