-- What the tests of an order show.
use Rattle.std.proofs.Common.{ℕ, zero, suc, ◌+◌, ◌<◌, ◌≤◌, ◌≡◌, ◌↔◌, inl, inr, refl, sym, ap, ◌∙◌}
use Rattle.std.proofs.Common.{arith, false, cond, ◌==◌, nat_lt, List, [], ◌∷◌, length}
use Rattle.std.proofs.Common.{count_by, All, eqb}
use Rattle.std.proofs.lemmas.Bool.{cases_Bool, cases_lt, eq-eqb, ne_eqb, lt-ltb, le-ltb}
use Rattle.task_sheet.proofs.Common.{below, IsOrderOf}
use Rattle.ceiling_kernel.specs.Bounds.{after_of}
use Rattle.ceiling_kernel.proofs.NodeLaws.{times, times-nil, times-here, times-not, times-grow}
use Rattle.ceiling_kernel.proofs.SumLaws.{total, total-add, total-same, total-single, total-zero}

-- the order's elements are below n
abbrev AllBelow : ℕ → List ℕ → Type 0
AllBelow n [] = Unit {0}
AllBelow n (x ∷ xs) = (x < n) × AllBelow n xs

below_from_All : (n : ℕ) (xs : List ℕ) → All (λ x. x < n) xs → AllBelow n xs
below_from_All n [] h = tt
below_from_All n (x ∷ xs) h =
    (h 0 0 (omega arith), below_from_All n xs (λ k d lt. h (suc k) d (omega arith)))

All_from_below : (n : ℕ) (xs : List ℕ) → AllBelow n xs → All (λ x. x < n) xs
All_from_below n [] h k d lt = absurd (omega arith)
All_from_below n (x ∷ xs) h zero d lt = h.0
All_from_below n (x ∷ xs) h (suc k) d lt = All_from_below n xs h.1 k d (omega arith)

times-past : (n k : ℕ) (xs : List ℕ) → AllBelow n xs → n ≤ k → times k xs ≡ 0
times-past n k [] h le = times-nil k
times-past n k (x ∷ xs) h le =
    let f : eqb x k ≡ false = ne_eqb x k (λ e. omega (arith, h.0)) in
    times-not k x xs f ∙ times-past n k xs h.1 le

below_from_times : (n : ℕ) (xs : List ℕ) → ((k : ℕ) → n ≤ k → times k xs ≡ 0) → AllBelow n xs
below_from_times n [] h = tt
below_from_times n (x ∷ xs) h =
    let mine : x < n = elim (cases_lt x n) [
      | inl lt ↦ lt
      | inr ge ↦
          absurd (omega (arith, times-here x x xs (eq-eqb x x refl), h x ge))
    ] in (
      mine,
      below_from_times n xs (λ k le. (omega (arith, times-grow k x xs, h k le))),
    )

times-order : (n : ℕ) (order : List ℕ) → IsOrderOf (below n) order → (k : ℕ)
    → times k order ≡ cond (nat_lt k n) 1 0
unfolding times
times-order n order h k = h k

times-count : (k : ℕ) (xs : List ℕ) → times k xs ≡ count_by (λ x. x == k) xs
unfolding times
times-count k xs = refl

pub order_iff : (n : ℕ) (order : List ℕ)
    → (All (λ x. x < n) order × ((k : ℕ) → k < n → count_by (λ x. x == k) order ≡ 1))
    ↔ IsOrderOf (below n) order
order_iff n order = (forth, back)
  where
    forth : (All (λ x. x < n) order × ((k : ℕ) → k < n → count_by (λ x. x == k) order ≡ 1))
        → IsOrderOf (below n) order
    forth h k = elim (cases_lt k n) [
      | inl lt ↦
          h.1 k lt ∙ sym (ap (λ b. cond b 1 0) (lt-ltb k n lt))
      | inr ge ↦ sym (times-count k order)
          ∙ (times-past n k order (below_from_All n order h.0) ge ∙ sym
          (ap (λ b. cond b 1 0) (le-ltb k n ge)))
    ]

    back : IsOrderOf (below n) order → All (λ x. x < n) order
        × ((k : ℕ) → k < n → count_by (λ x. x == k) order ≡ 1)
    back h = (
      All_from_below n order (below_from_times n order (λ k le.
          (times-order n order h k ∙ ap (λ b. cond b 1 0) (le-ltb k n le)))),
      λ k lt. (h k ∙ ap (λ b. cond b 1 0) (lt-ltb k n lt)),
    )

-- an order of n indexes has n elements
total-times : (n : ℕ) (xs : List ℕ) → AllBelow n xs → total (λ k. times k xs) n ≡ length xs
total-times n [] h = total-zero (λ k. times k []) n (λ k lt. times-nil k)
total-times n (x ∷ xs) h =
    omega (
      arith,
      total-same (λ k. times k (x ∷ xs)) (λ k. cond (x == k) 1 0 + times k xs) n
          (λ k lt. split k),
      total-add (λ k. cond (x == k) 1 0) (λ k. times k xs) n,
      total-single (λ k. 1)
          n x h.0,
      total-times n xs h.1,
    )
  where
    split : (k : ℕ) → times k (x ∷ xs) ≡ cond (x == k) 1 0 + times k xs
    split k = elim (cases_Bool (x == k)) [
      | inl here ↦ times-here k x xs here ∙ ap (λ b. cond b 1 0 + times k xs) (sym here)
      | inr not ↦ times-not k x xs not ∙ (omega arith ∙ ap (λ b. cond b 1 0 + times k xs) (sym not))
    ]

total-ones : (f : ℕ → ℕ) (n : ℕ) → ((k : ℕ) → k < n → f k ≡ 1) → total f n ≡ n
unfolding total
total-ones f zero h = refl
total-ones f (suc n) h = (let before : total f n ≡ n = total-ones f n (λ k lt. h k (omega arith)) in
    let here : f n ≡ 1 = h n (omega arith) in omega arith)

pub order_length : (n : ℕ) (order : List ℕ) → IsOrderOf (below n) order → length order ≡ n
order_length n order h =
    let parts = (order_iff n order).1 h in
    sym (total-times n order (below_from_All n order parts.0))
    ∙ total-ones (λ k. times k order) n (λ k lt. times-count k order ∙ parts.1 k lt)

-- what holds of each of an order holds of each that stands above a task
pub after_of-all : (P : ℕ → Type 0) (order : List ℕ) (i : ℕ) → All P order → All P (after_of order i)
after_of-all P [] i all = all
after_of-all P (k ∷ order) i all =
    let rest : All P order = λ j d lt. all (suc j) d (omega (arith, lt)) in
    elim (cases_Bool (k == i)) [
      | inl here ↦ rw here rest
      | inr there ↦ rw there (after_of-all P order i rest)
    ]
