-- Sets of indexes: parts of one another, one index less or more, and the lists that name them.
use Rattle.std.proofs.Common.{◌≡◌, ℕ, zero, suc, ◌+◌, ◌*◌, ◌<◌, ◌≤◌, ◌⊎◌, inl, inr, Bool, true}
use Rattle.std.proofs.Common.{false, cond, ◌==◌, ◌&&◌, not, nat_lt, List, [], ◌∷◌, ◌++◌, length}
use Rattle.std.proofs.Common.{get_or, refl, sym, ◌∙◌, ap, arith}
use Rattle.std.proofs.Math.Path.{fun_ext}
use Rattle.std.specs.Cmp
use Rattle.std.specs.List.{count_by, AllByRecursion}
use Rattle.std.proofs.lemmas.Bool.{cases_Bool, cases_eq, and_parts, and_from, or_cases, or_left}
use Rattle.std.proofs.lemmas.Bool.{or_right, both_ways, cond-true, cond-false, eq-eqb, ne_eqb}
use Rattle.std.proofs.lemmas.Bool.{eqb-true, false_from_ne_true, not-true, lt-ltb, le-ltb, ltb-true}
use Rattle.std.proofs.lemmas.List.{get_or_read}
use Rattle.std.proofs.lemmas.List.Folds.{list_any_at, Any-from_list_any}
use Rattle.std.proofs.lemmas.Bool.Decides.{nat_tests}
use Rattle.std.proofs.Math.Bool.{and-false}
use Rattle.std.proofs.lemmas.List.Sums.{sum_by-cons, sum_by-append}
use Rattle.task_sheet.proofs.Common.{Indexes, IsPart, below, with_index, without_index, among}
use Rattle.task_sheet.proofs.Common.{listed_below, sum_below, IsOrderOf}
use Rattle.task_sheet.proofs.Below.{cond-le, sum_below-one, sum_below-fits}

-- ---- parts
pub same_parts : (G H : Indexes) → IsPart G H → IsPart H G → G ≡ H
same_parts G H part part' =
    fun_ext (λ k. Cmp.both_ways (G k) (H k) (part k) (part' k))

pub with_index-part : (H G : Indexes) (i : ℕ) → IsPart H G
    → IsPart (with_index H i) (with_index G i)
with_index-part H G i part k h =
    elim (or_cases _ _ h) [ inl l ↦ or_left _ _ l | inr r ↦ or_right _ _ (part k r) ]

-- ---- one index less
pub without-member : (H : Indexes) (i k : ℕ) → H k ≡ true → (k ≡ i → ⊥) → without_index H i k ≡ true
without-member H i k member ne = and_from _ _ member (rw (ne_eqb k i ne))

pub without-parts : (H : Indexes) (i k : ℕ) → without_index H i k ≡ true → (H k ≡ true)
    × (k ≡ i → ⊥)
without-parts H i k h =
    let both = and_parts (H k) (not (k == i)) h in
    (both.0, λ e. both_ways (k == i) (not-true _ both.1) (eq-eqb k i e))

pub without-part : (G H : Indexes) (i : ℕ) → IsPart G H
    → IsPart (without_index G i) (without_index H i)
without-part G H i part k h =
    let both = without-parts G i k h in without-member H i k (part k both.0) both.1

-- what is left of a part is a part
pub without-part_of : (n : ℕ) (L : Indexes) (i : ℕ) → IsPart L (below n)
    → IsPart (without_index L i) (below n)
without-part_of n L i part k h = part k (without-parts L i k h).0

-- it is gone, and the others stay
pub without-gone : (H : Indexes) (i k : ℕ) → k ≡ i → without_index H i k ≡ false
without-gone H i k e =
    false_from_ne_true (without_index H i k) (λ so. (without-parts H i k so).1 e)

pub without-kept : (H : Indexes) (i k : ℕ) → (k ≡ i → ⊥) → without_index H i k ≡ H k
without-kept H i k ne = elim (cases_Bool (H k)) [
  | inl so ↦ without-member H i k so ne ∙ sym so
  | inr so ↦ rw so
]

-- how many indexes below n are in a set
abbrev pub count_below : ℕ → Indexes → ℕ
count_below n L = sum_below n (λ k. cond (L k) 1 0)

-- what the members add up to is the sum of the others and the term of one
pub sum-without : (n : ℕ) (f : ℕ → ℕ) (L : Indexes) (i : ℕ) → i < n → L i ≡ true
    → sum_below n (λ k. cond (without_index L i k) (f k) 0) + f i
    ≡ sum_below n (λ k. cond (L k) (f k) 0)
sum-without n f L i lt member =
    let rest : ℕ → ℕ = λ k. cond (without_index L i k) (f k) 0 in
    let all : ℕ → ℕ = λ k. cond (L k) (f k) 0 in
    let gone : rest i ≡ 0 = rw (without-gone L i i refl) in
    let own : all i ≡ f i = rw member in
    let kept = sum_below-one n rest all i lt
    (λ k less ne. ap (λ b. cond b (f k) 0) (without-kept L i k ne)) in
    omega arith

-- one member is counted less
pub without-fewer : (n : ℕ) (L : Indexes) (i : ℕ) → i < n → L i ≡ true
    → count_below n (without_index L i) < count_below n L
without-fewer n L i lt member = omega (arith, sum-without n (λ k. 1) L i lt member)

-- ---- the places of a list
pub among-place : (xs : List ℕ) (k : ℕ) → among xs k ≡ true → (j : ℕ) × (j < length xs)
    × (get_or xs j 0 ≡ k)
among-place xs k is =
    let at = Any-from_list_any (λ x. x == k) xs is in
    (at.0, at.2, sym (get_or_read xs at.0 at.1 at.2 (sym at.3) 0) ∙ eqb-true at.1 k at.4)

pub place-among : (xs : List ℕ) (j : ℕ) → j < length xs → among xs (get_or xs j 0) ≡ true
place-among xs j lt = list_any_at (λ x. x == get_or xs j 0) xs j 0 lt (eq-eqb _ _ refl)

-- ---- how often a list names an index
pub count-cons : (i k : ℕ) (xs : List ℕ)
    → count_by (λ x. x == k) (i ∷ xs) ≡ cond (i == k) 1 0 + count_by (λ x. x == k) xs
count-cons i k xs = sum_by-cons (λ x. cond (x == k) 1 0) i xs

count-same : (i k : ℕ) (xs : List ℕ) → i ≡ k
    → count_by (λ x. x == k) (i ∷ xs) ≡ 1 + count_by (λ x. x == k) xs
count-same i k xs e = let so : (i == k) ≡ true = eq-eqb i k e in count-cons i k xs ∙ rw so

count-other : (i k : ℕ) (xs : List ℕ) → (i ≡ k → ⊥)
    → count_by (λ x. x == k) (i ∷ xs) ≡ count_by (λ x. x == k) xs
count-other i k xs ne = let so : (i == k) ≡ false = ne_eqb i k ne in let e = count-cons i k xs in
    let c = cond-false {A = ℕ} (i == k) 1 0 so in omega arith

among-count : (xs : List ℕ) (k : ℕ) → ((among xs k ≡ true) × (1 ≤ count_by (λ x. x == k) xs))
    ⊎ ((among xs k ≡ false) × (count_by (λ x. x == k) xs ≡ 0))
among-count [] k = inr (refl, refl)
among-count (x ∷ xs) k =
    elim (cases_eq x k) [
      | inl e ↦ inl (or_left _ _ (eq-eqb x k e), omega (arith, count-same x k xs e))
      | inr ne ↦ elim (among-count xs k) [
        | inl is ↦ inl (or_right _ _ is.0, omega (arith, count-other x k xs ne, is.1))
        | inr out ↦ inr (rw (ne_eqb x k ne, out.0), omega (arith, count-other x k xs ne, out.1))
      ]
    ]

-- ---- lists that name each index of a set once
one_told : (b : Bool) → 1 ≤ cond b 1 0 → b ≡ true
one_told true h = refl
one_told false h = absurd (omega arith)

none_told : (b : Bool) → cond b 1 0 ≤ 0 → b ≡ false
none_told true h = absurd (omega arith)
none_told false h = refl

pub IsOrderOf-among : (L : Indexes) (order : List ℕ) → IsOrderOf L order → among order ≡ L
IsOrderOf-among L order each = fun_ext (λ k. elim (among-count order k) [
  | inl is ↦ is.0 ∙ sym (one_told (L k) (omega (arith, each k, is.1)))
  | inr out ↦ out.0 ∙ sym (none_told (L k) (omega (arith, each k, out.1)))
])

pub IsOrderOf-head : (L : Indexes) (i : ℕ) (above : List ℕ) → IsOrderOf L (i ∷ above) → L i ≡ true
IsOrderOf-head L i above each =
    one_told (L i) (omega (arith, each i, count-same i i above refl))

pub IsOrderOf-rest : (L : Indexes) (i : ℕ) (above : List ℕ) → IsOrderOf L (i ∷ above)
    → IsOrderOf (without_index L i) above
IsOrderOf-rest L i above each k =
    let once = each k in
    elim (cases_eq k i) [
      | inl e ↦
          let at_most = cond-le (L k) 1 0 1 (omega arith) (omega arith) in
          rw (without-gone L i k e) (omega (arith, count-same i k above (sym e)))
      | inr ne ↦ rw (without-kept L i k ne) (omega (arith, count-other i k above (λ e. ne (sym e))))
    ]

pub IsOrderOf-cons : (L : Indexes) (i : ℕ) (above : List ℕ) → L i ≡ true
    → IsOrderOf (without_index L i) above → IsOrderOf L (i ∷ above)
IsOrderOf-cons L i above member each k =
    let once = each k in
    elim (cases_eq k i) [
      | inl e ↦
          let here = cond-true {A = ℕ} (L k) 1 0 (rw e member) in
          let none = cond-false {A = ℕ} (without_index L i k) 1 0 (without-gone L i k e) in
          omega (arith, count-same i k above (sym e))
      | inr ne ↦
          rw (without-kept L i k ne) at (count-other i k above (λ e. ne (sym e)) ∙ once)
    ]

-- ---- such a list of indexes below n: each is below n, and there are n at most
pub order-below : (n : ℕ) (L : Indexes) (order : List ℕ) → IsOrderOf L order → IsPart L (below n)
    → AllByRecursion (λ k. k < n) order
order-below n L [] each part = tt
order-below n L (i ∷ above) each part = (
  ltb-true i n (part i (IsOrderOf-head L i above each)),
  order-below n (without_index L i) above
      (IsOrderOf-rest L i above each) (without-part_of n L i part),
)

order-count : (n : ℕ) (L : Indexes) (order : List ℕ) → IsOrderOf L order → IsPart L (below n)
    → length order ≤ count_below n L
order-count n L [] each part = omega arith
order-count n L (i ∷ above) each part =
    let member = IsOrderOf-head L i above each in
    let fewer = without-fewer n L i (ltb-true i n (part i member)) member in
    let rest = order-count n (without_index L i) above (IsOrderOf-rest L i above each)
    (without-part_of n L i part) in
    omega (arith, fewer, rest)

pub order-few : (n : ℕ) (L : Indexes) (order : List ℕ) → IsOrderOf L order → IsPart L (below n)
    → length order ≤ n
order-few n L order each part =
    let all : count_below n L ≤ n * 1 = sum_below-fits n 1 (λ k. cond (L k) 1 0)
    (λ k lt. cond-le (L k) 1 0 1 (omega arith) (omega arith)) in
    omega (arith, order-count n L order each part, all)

-- ---- the rising list of a set
push-count : (xs : List ℕ) (b : Bool) (n k : ℕ)
    → count_by (λ x. x == k) (cond b (xs ++ n ∷ []) xs)
    ≡ cond b (count_by (λ x. x == k) xs + cond (n == k) 1 0) (count_by (λ x. x == k) xs)
push-count xs true n k =
    omega (arith, sum_by-append (λ x. cond (x == k) 1 0) xs (n ∷ []), count-cons n k [])
push-count xs false n k = refl

step-count : (n k : ℕ) (here there : Bool) → (k ≡ n → there ≡ here)
    → cond here (cond (nat_lt k n && there) 1 0 + cond (n == k) 1 0)
    (cond (nat_lt k n && there) 1 0) ≡ cond (nat_lt k (suc n) && there) 1 0
step-count n k here there same = grind (arith, nat_tests)

-- how often it names an index
listed-count : (n : ℕ) (L : Indexes) (k : ℕ)
    → count_by (λ x. x == k) (listed_below n L) ≡ cond (nat_lt k n && L k) 1 0
listed-count zero L k = let out = le-ltb k 0 (omega arith) in rw out
listed-count (suc n) L k =
    push-count (listed_below n L) (L n) n k
    ∙ ap (λ c. cond (L n) (c + cond (n == k) 1 0) c) (listed-count n L k)
    ∙ step-count n k (L n) (L k) (λ e. ap L e)

pub listed-has : (n : ℕ) (L : Indexes) (k : ℕ) → k < n → L k ≡ true
    → among (listed_below n L) k ≡ true
listed-has n L k lt member =
    let lesser : Indexes = λ k. nat_lt k n && L k in
    ap (λ X. X k) (IsOrderOf-among lesser (listed_below n L) (listed-count n L))
    ∙ and_from _ _ (lt-ltb k n lt) member

-- each is below n
pub listed-below : (n m : ℕ) (L : Indexes) → n ≤ m → AllByRecursion (λ k. k < m) (listed_below n L)
listed-below n m L le =
    let lesser : Indexes = λ k. nat_lt k n && L k in
    order-below m lesser (listed_below n L) (listed-count n L)
    (λ k h. lt-ltb k m (omega (arith, ltb-true k n (and_parts _ _ h).0)))

pub listed-order : (n : ℕ) (L : Indexes) → IsPart L (below n) → IsOrderOf L (listed_below n L)
listed-order n L part k = listed-count n L k ∙ elim (cases_Bool (L k)) [
  | inl member ↦ let under : nat_lt k n ≡ true = part k member in rw (under, member)
  | inr out ↦ rw out (ap (λ b. cond b 1 0) (and-false (nat_lt k n)))
]

pub listed-among : (n : ℕ) (L : Indexes) → IsPart L (below n) → among (listed_below n L) ≡ L
listed-among n L part = IsOrderOf-among L (listed_below n L) (listed-order n L part)
