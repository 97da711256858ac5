-- Sums over the numbers below n.
use Rattle.std.proofs.Common.{ℕ, zero, suc, ◌+◌, ◌<◌, ◌≤◌, ◌≡◌, inl, inr, refl, sym, ap, subst}
use Rattle.std.proofs.Common.{arith, eqb, if◌then◌else◌, false, ◌==◌}
use Rattle.std.proofs.lemmas.Bool.{cases_eq, eq-eqb, ne_eqb}
use Rattle.task_sheet.specs.Indexes.{sum_below}

-- the sum of f at 0, 1, .. below n
unfoldable pub total : (ℕ → ℕ) → ℕ → ℕ
total f zero = 0
total f (suc n) = total f n + f n

pub total-sum : (f : ℕ → ℕ) (n : ℕ) → total f n ≡ sum_below n f
unfolding total
total-sum f zero = refl
total-sum f (suc n) = ap (λ x. x + f n) (total-sum f n)

pub total-le : (f g : ℕ → ℕ) (n : ℕ) → ((j : ℕ) → j < n → f j ≤ g j) → total f n ≤ total g n
unfolding total
total-le f g zero h = omega arith
total-le f g (suc n) h =
    let before : total f n ≤ total g n = total-le f g n (λ j lt. h j (omega arith)) in
    let here : f n ≤ g n = h n (omega arith) in
    omega arith

-- one term less makes the sum less
pub total-lt : (f g : ℕ → ℕ) (n p : ℕ) → p < n → f p < g p → ((j : ℕ) → j < n → f j ≤ g j)
    → total f n < total g n
unfolding total
total-lt f g zero p lt less h = absurd (omega arith)
total-lt f g (suc n) p lt less h =
    let here : f n ≤ g n = h n (omega arith) in
    elim (cases_eq p n) [
      | inl e ↦
          let before : total f n ≤ total g n = total-le f g n (λ j below. h j (omega arith)) in
          omega (arith, subst (λ x. f x < g x) e less)
      | inr ne ↦
          let before = total-lt f g n p (omega arith) less (λ j below. h j (omega arith)) in
          omega arith
    ]

pub total-add : (f g : ℕ → ℕ) (n : ℕ) → total (λ j. f j + g j) n ≡ total f n + total g n
unfolding total
total-add f g zero = refl
total-add f g (suc n) = omega (arith, total-add f g n)

pub total-same : (f g : ℕ → ℕ) (n : ℕ) → ((j : ℕ) → j < n → f j ≡ g j) → total f n ≡ total g n
unfolding total
total-same f g zero h = refl
total-same f g (suc n) h =
    let before : total f n ≡ total g n = total-same f g n (λ j lt. h j (omega arith)) in
    let here : f n ≡ g n = h n (omega arith) in
    omega arith

-- a term is at most the sum
pub term-le : (f : ℕ → ℕ) (n p : ℕ) → p < n → f p ≤ total f n
unfolding total
term-le f zero p lt = absurd (omega arith)
term-le f (suc n) p lt =
    elim (cases_eq p n) [
      | inl e ↦ omega (arith, ap f e)
      | inr ne ↦ let before : f p ≤ total f n = term-le f n p (omega arith) in omega arith
    ]

pub total-zero : (f : ℕ → ℕ) (n : ℕ) → ((j : ℕ) → j < n → f j ≡ 0) → total f n ≡ 0
unfolding total
total-zero f zero h = refl
total-zero f (suc n) h =
    let before : total f n ≡ 0 = total-zero f n (λ j lt. h j (omega arith)) in
    let here : f n ≡ 0 = h n (omega arith) in
    omega arith

-- where at most one term isn't 0, the sum is at most what bounds each term
pub total-one : (f : ℕ → ℕ) (n b : ℕ) → ((j : ℕ) → j < n → f j ≤ b)
    → ((j k : ℕ) → 0 < f j → 0 < f k → j ≡ k) → total f n ≤ b
unfolding total
total-one f zero b h one = omega arith
total-one f (suc n) b h one =
    elim (cases_eq (f n) 0) [
      | inl none ↦ let before : total f n ≤ b = total-one f n b (λ j lt. h j (omega arith)) one in
          omega arith
      | inr some ↦
          let rest = total-zero f n (λ j lt. elim (cases_eq (f j) 0) [
            | inl z ↦ z
            | inr nz ↦ let same : j ≡ n = one j n (omega arith) (omega arith) in
                absurd (omega arith)
          ]) in
          let here : f n ≤ b = h n (omega arith) in
          omega arith
    ]

-- the term of one place alone
pub total-single : (c : ℕ → ℕ) (n t : ℕ) → t < n → total (λ h. if t == h then c h else 0) n ≡ c t
unfolding total
total-single c zero t lt = absurd (omega arith)
total-single c (suc n) t lt =
    elim (cases_eq t n) [
      | inl e ↦
          let rest = total-zero (λ h. if t == h then c h else 0) n
          (λ j below. let ne : eqb t j ≡ false = ne_eqb t j (λ s. omega arith) in rw ne) in
          rw (rest, eq-eqb t n e) (omega (arith, ap c (sym e)))
      | inr ne ↦
          let before = total-single c n t (omega arith) in
          rw (before, ne_eqb t n ne) (omega arith)
    ]
