-- Sums, greatest values and tests over the numbers below n, and greatest values over lists.
use Rattle.std.proofs.Common.{◌≡◌, ℕ, zero, suc, ◌+◌, ◌*◌, ◌<◌, ◌≤◌, ◌⊎◌, Bool, cond, true, inl}
use Rattle.std.proofs.Common.{inr, List, [], ◌∷◌, ◌++◌, length, take, get_or, add-one, refl, sym}
use Rattle.std.proofs.Common.{◌∙◌, ap, arith, max, false}
use Rattle.std.proofs.lemmas.List.{take_more}
use Rattle.std.specs.List.{AllByRecursion, Contains}
use Rattle.std.proofs.lemmas.Bool.{both_ways, cases_Bool, cases_eq, cases_lt, or_left, or_right}
use Rattle.std.proofs.lemmas.Bool.{false_from_ne_true}
use Rattle.std.proofs.lemmas.Bool.Decides.{nat_tests}
use Rattle.std.specs.Ordering.{ord_max, nat_cmp}
use Rattle.task_sheet.proofs.Common.{sum_below, greatest_below, some_below, greatest_of}

-- a choice is at most what both sides are at most
pub cond-le : (b : Bool) (x y m : ℕ) → x ≤ m → y ≤ m → cond b x y ≤ m
cond-le true x y m le le' = le
cond-le false x y m le le' = le'

-- ---- sums
pub sum_below-le : (n : ℕ) (f g : ℕ → ℕ) → ((k : ℕ) → k < n → f k ≤ g k)
    → sum_below n f ≤ sum_below n g
sum_below-le zero f g le = omega arith
sum_below-le (suc n) f g le =
    omega (arith, sum_below-le n f g (λ k lt. le k (omega arith)), le n (omega arith))

pub sum_below-same : (n : ℕ) (f g : ℕ → ℕ) → ((k : ℕ) → k < n → f k ≡ g k)
    → sum_below n f ≡ sum_below n g
sum_below-same zero f g same = refl
sum_below-same (suc n) f g same =
    omega (arith, sum_below-same n f g (λ k lt. same k (omega arith)), same n (omega arith))

-- sums that differ in one term
pub sum_below-one : (n : ℕ) (f g : ℕ → ℕ) (i : ℕ) → i < n
    → ((k : ℕ) → k < n → (k ≡ i → ⊥) → f k ≡ g k) → sum_below n f + g i ≡ sum_below n g + f i
sum_below-one zero f g i lt others = absurd (omega arith)
sum_below-one (suc n) f g i lt others = elim (cases_eq i n) [
  | inl e ↦ omega (
    arith,
    sum_below-same n f g (λ k less. others k (omega arith) (λ is. omega arith)),
    ap f e,
    ap g e,
  )
  | inr ne ↦ omega (
    arith,
    sum_below-one n f g i (omega arith) (λ k less. others k (omega arith)),
    others n (omega arith) (λ is. ne (sym is)),
  )
]

-- a term that the smaller sum lacks
pub sum_below-gap : (n : ℕ) (f g : ℕ → ℕ) (k : ℕ) → ((k : ℕ) → f k ≤ g k) → k < n → f k ≡ 0
    → sum_below n f + g k ≤ sum_below n g
sum_below-gap zero f g k le lt none = absurd (omega arith)
sum_below-gap (suc n) f g k le lt none =
    elim (cases_eq k n) [
      | inl e ↦
          let here : f n ≡ 0 = rw (← e) none in
          let same : g k ≡ g n = rw e in
          omega (arith, sum_below-le n f g (λ k lt. le k))
      | inr ne ↦ omega (arith, sum_below-gap n f g k le (omega arith) none, le n)
    ]

pub sum_below-fits : (n m : ℕ) (f : ℕ → ℕ) → ((k : ℕ) → k < n → f k ≤ m) → sum_below n f ≤ n * m
sum_below-fits zero m f le = omega arith
sum_below-fits (suc n) m f le =
    omega (arith, sum_below-fits n m f (λ k lt. le k (omega arith)), le n (omega arith))

pub sum_below-le-term : (n : ℕ) (f : ℕ → ℕ) (k : ℕ) → k < n → f k ≤ sum_below n f
sum_below-le-term n f k lt = omega (
  arith,
  sum_below-gap n (λ _. 0) f k (λ _. omega arith) lt refl,
)

pub sum_below-both : (n : ℕ) (f g : ℕ → ℕ)
    → sum_below n (λ k. f k + g k) ≡ sum_below n f + sum_below n g
sum_below-both zero f g = refl
sum_below-both (suc n) f g = omega (arith, sum_below-both n f g)

-- a loop's step
pub sum_step : (n : ℕ) (f : ℕ → ℕ) (total more next : ℕ) → total ≡ sum_below n f → f n ≡ more
    → next ≡ total + more → next ≡ sum_below (n + 1) f
sum_step n f total more next before here is = rw add-one (omega arith)

-- ---- greatest values
-- the greatest value is at most what each is at most
pub greatest_below-le : (n : ℕ) (f : ℕ → ℕ) (m : ℕ) → ((k : ℕ) → k < n → f k ≤ m)
    → greatest_below n f ≤ m
greatest_below-le zero f m le = omega arith
greatest_below-le (suc n) f m le =
    omega (arith, greatest_below-le n f m (λ k lt. le k (omega arith)), le n (omega arith))

pub le-greatest_below : (n : ℕ) (f : ℕ → ℕ) (k : ℕ) → k < n → f k ≤ greatest_below n f
le-greatest_below zero f k lt = absurd (omega arith)
le-greatest_below (suc n) f k lt =
    elim (cases_eq k n) [
      | inl e ↦ let same : f k ≡ f n = rw e in omega arith
      | inr ne ↦ omega (arith, le-greatest_below n f k (omega arith))
    ]

pub greatest_below-some : (n : ℕ) (f : ℕ → ℕ) → (greatest_below n f ≡ 0)
    ⊎ ((k : ℕ) × (k < n) × (greatest_below n f ≡ f k))
greatest_below-some zero f = inl refl
greatest_below-some (suc n) f =
    elim (cases_lt (f n) (greatest_below n f)) [
      | inl lt ↦ elim (greatest_below-some n f) [
        | inl none ↦ absurd (omega arith)
        | inr some ↦ inr (some.0, omega (arith, some.1), omega (arith, some.2))
      ]
      | inr le ↦ inr (n, omega arith, omega arith)
    ]

-- how `max` says it
pub ord_max-is : (a b : ℕ) → ord_max nat_cmp a b ≡ max a b
ord_max-is a b = grind (arith, nat_tests)

-- ---- greatest values over lists
pub greatest_of-le : {X : Type 0} (f : X → ℕ) (m : ℕ) (xs : List X)
    → AllByRecursion (λ x. f x ≤ m) xs → greatest_of f xs ≤ m
greatest_of-le f m [] le = omega arith
greatest_of-le f m (x ∷ xs) le = omega (arith, le.0, greatest_of-le f m xs le.1)

pub greatest_of-mono : {X : Type 0} (f g : X → ℕ) (xs : List X) → ((x : X) → f x ≤ g x)
    → greatest_of f xs ≤ greatest_of g xs
greatest_of-mono f g [] le = omega arith
greatest_of-mono f g (x ∷ xs) le = omega (arith, le x, greatest_of-mono f g xs le)

pub le-greatest_of : {X : Type 0} (f : X → ℕ) (xs : List X) (k : ℕ) (x : X) → k < length xs
    → get_or xs k x ≡ x → f x ≤ greatest_of f xs
le-greatest_of f [] k x lt e = absurd (omega arith)
le-greatest_of f (y ∷ xs) zero x lt e = let same = ap f e in omega arith
le-greatest_of f (y ∷ xs) (suc k) x lt e = omega (arith, le-greatest_of f xs k x (omega arith) e)

pub greatest_of-some : {X : Type 0} (f : X → ℕ) (xs : List X) → (greatest_of f xs ≡ 0)
    ⊎ ((x : X) × Contains xs x × (greatest_of f xs ≡ f x))
greatest_of-some f [] = inl refl
greatest_of-some f (y ∷ xs) =
    elim (cases_lt (f y) (greatest_of f xs)) [
      | inl lt ↦ elim (greatest_of-some f xs) [
        | inl none ↦ absurd (omega arith)
        | inr some ↦ let k = some.1.0 in
            inr (some.0, (suc k, omega (arith, some.1.1), some.1.2), omega (arith, some.2))
      ]
      | inr le ↦ inr (y, (zero, omega arith, refl), omega arith)
    ]

pub greatest_of-push : {X : Type 0} (f : X → ℕ) (xs : List X) (y : X)
    → greatest_of f (xs ++ y ∷ []) ≡ max (greatest_of f xs) (f y)
greatest_of-push f [] y = omega arith
greatest_of-push f (x ∷ xs) y = omega (arith, greatest_of-push f xs y)

-- a loop's step
greatest_of-step : {X : Type 0} (f : X → ℕ) (xs : List X) (i : ℕ) (d : X) → i < length xs
    → greatest_of f (take (i + 1) xs) ≡ max (greatest_of f (take i xs)) (f (get_or xs i d))
greatest_of-step f xs i d lt =
    rw (take_more xs i d lt) (greatest_of-push f (take i xs) (get_or xs i d))

cond-max : (b : Bool) (best n : ℕ) → cond b (max best n) best ≡ max best (cond b n 0)
cond-max true best n = omega arith
cond-max false best n = omega arith

-- a loop's step, where only the elements that pass a test count
pub greatest_step : {X : Type 0} (p : X → Bool) (f : X → ℕ) (xs : List X) (i : ℕ) (x : X) (b : Bool)
    (best next : ℕ) → i < length xs → x ≡ get_or xs i x → b ≡ p x
    → best ≡ greatest_of (λ y. cond (p y) (f y) 0) (take i xs) → next ≡ cond b (max best (f x)) best
    → next ≡ greatest_of (λ y. cond (p y) (f y) 0) (take (i + 1) xs)
greatest_step p f xs i x b best next lt is test h e =
    e ∙ cond-max b best (f x) ∙ rw (test) (ap (λ n. max n (cond (p x) (f x) 0)) h
    ∙ ap (λ y. max (greatest_of (λ z. cond (p z) (f z) 0) (take i xs)) (cond (p y) (f y) 0)) is
    ∙ sym (greatest_of-step (λ y. cond (p y) (f y) 0) xs i x lt))

-- ---- some number below n
pub some_below-at : (n : ℕ) (p : ℕ → Bool) (k : ℕ) → k < n → p k ≡ true → some_below n p ≡ true
some_below-at zero p k lt so = absurd (omega arith)
some_below-at (suc n) p k lt so =
    elim (cases_eq k n) [
      | inl e ↦ or_right _ _ (rw e at so)
      | inr ne ↦ or_left _ _ (some_below-at n p k (omega arith) so)
    ]

pub some_below-none : (n : ℕ) (p : ℕ → Bool) → ((k : ℕ) → k < n → p k ≡ false)
    → some_below n p ≡ false
some_below-none zero p none = refl
some_below-none (suc n) p none =
    rw (some_below-none n p (λ k lt. none k (omega arith)), none n (omega arith))

-- where none passes, each fails
pub none_below : (n : ℕ) (p : ℕ → Bool) → some_below n p ≡ false → (k : ℕ) → k < n → p k ≡ false
none_below n p none k lt =
    false_from_ne_true (p k) (λ so. both_ways _ none (some_below-at n p k lt so))

-- the least of the numbers below n that pass
pub least_below_at : (n : ℕ) (p : ℕ → Bool) → some_below n p ≡ true → (k : ℕ) × (k < n)
    × (p k ≡ true) × ((j : ℕ) → j < k → p j ≡ false)
least_below_at zero p h = cc
least_below_at (suc n) p h =
    elim (cases_Bool (some_below n p)) [
      | inl before ↦ let at = least_below_at n p before in (at.0, omega (arith, at.1), at.2, at.3)
      | inr none ↦ (
        n,
        omega arith,
        rw none at h,
        none_below n p none,
      )
    ]

pub some_below-witness : (n : ℕ) (p : ℕ → Bool) → some_below n p ≡ true → (k : ℕ) × (k < n)
    × (p k ≡ true)
some_below-witness n p h = let at = least_below_at n p h in (at.0, at.1, at.2)

pub some_below-mono : (n : ℕ) (p q : ℕ → Bool) → ((k : ℕ) → p k ≡ true → q k ≡ true)
    → some_below n p ≡ true → some_below n q ≡ true
some_below-mono n p q more h =
    let at = some_below-witness n p h in some_below-at n q at.0 at.1 (more at.0 at.2)

pub find_below : (n : ℕ) (p : ℕ → Bool) → ((k : ℕ) × (k < n) × (p k ≡ true))
    ⊎ ((k : ℕ) → k < n → p k ≡ false)
find_below n p = elim (cases_Bool (some_below n p)) [
  | inl some ↦ inl (some_below-witness n p some)
  | inr none ↦ inr (none_below n p none)
]
