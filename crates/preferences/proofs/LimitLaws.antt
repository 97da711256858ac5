-- In a set by limits the ranks are by limits, and the best order is the nearest to limit-monotonic.
use Rattle.std.proofs.Common.{◌≡◌, ◌↔◌, ℕ, zero, suc, ◌+◌, ◌<◌, ◌≤◌, ◌⊎◌, inl, inr, true, false}
use Rattle.std.proofs.Common.{cond, nat_lt, List, [], ◌∷◌, length, get_or, map, Ordering, Less}
use Rattle.std.proofs.Common.{Equal, Greater, refl, sym, ◌∙◌, ap, arith}
use Rattle.std.specs.List.{AllByRecursion, All}
use Rattle.std.specs.Ordering.{nat_cmp, ordering_then, ordering_reverse}
use Rattle.std.specs.Cmp.Lexicographic.{slice_cmp, nat_list_cmp_total}
use Rattle.std.proofs.lemmas.Bool.{cases_lt, cases_order, lt-ltb, le-ltb}
use Rattle.std.proofs.lemmas.Bool.Decides.{nat_tests}
use Rattle.std.proofs.lemmas.List.Sums.{sum_by-cons, sum_by-le-sum_by}
use Rattle.std.proofs.lemmas.List.Elements.{All-from_recursion, recursion_from_All}
use Rattle.std.proofs.lemmas.List.Sorted.{All-permutation, sum_by-IsPermutation, IsPermutation-refl}
use Rattle.std.proofs.lemmas.Map.Keys.{Less-from_sorted}
use Rattle.task_sheet.proofs.Common.{Task, no_task, task_at, rank_cmp, IsByRank, limit_of, all_of}
use Rattle.task_sheet.proofs.Common.{IsOrder, IsPassingOrder, IsBetter, IsBest}
use Rattle.task_sheet.specs.Sheet.{weighing}
use Rattle.task_sheet.proofs.IndexLaws.{order-below}
use Rattle.task_sheet.proofs.LevelLaws.{compare_orders}
use Rattle.preferences.specs.Preferences.{longer_limits, reweighed_in, reweighed}
use Rattle.preferences.specs.LimitOrders.{IsLower, IsNearer}

-- ---- counts of longer limits
one-more : (a : ℕ) (t : Task) (ts : List Task)
    → longer_limits (t ∷ ts) a ≡ cond (nat_lt a (limit_of t)) 1 0 + longer_limits ts a
one-more a t ts = sum_by-cons (λ (u : Task). cond (nat_lt a (limit_of u)) 1 0) t ts

step-le : (a b d : ℕ) → b ≤ a → cond (nat_lt a d) 1 0 ≤ cond (nat_lt b d) 1 0
step-le a b d le = elim (cases_lt a d) [
  | inl lt ↦ rw (lt-ltb a d lt, lt-ltb b d (omega arith)) (omega arith)
  | inr past ↦ rw (le-ltb a d past) (omega arith)
]

later-le : (U : List Task) (a b : ℕ) → b ≤ a → longer_limits U a ≤ longer_limits U b
later-le U a b le = sum_by-le-sum_by (λ (t : Task). cond (nat_lt a (limit_of t)) 1 0)
    (λ (t : Task). cond (nat_lt b (limit_of t)) 1 0) U (λ t. step-le a b (limit_of t) le)

-- the task of a longer limit is counted more
later-lt : (U : List Task) (a b k : ℕ) → b < a → k < length U → limit_of (task_at U k) ≡ a
    → longer_limits U a < longer_limits U b
later-lt [] a b k lt within is = absurd (omega arith)
later-lt (t ∷ ts) a b zero lt within is =
    let here : nat_lt a (limit_of t) ≡ false = le-ltb a (limit_of t) (omega (arith, is)) in
    let there : nat_lt b (limit_of t) ≡ true = lt-ltb b (limit_of t) (omega (arith, is)) in
    rw (one-more a t ts, one-more b t ts, here, there)
    (omega (arith, later-le ts a b (omega arith)))
later-lt (t ∷ ts) a b (suc k) lt within is = omega (
  arith,
  one-more a t ts,
  one-more b t ts,
  step-le a b (limit_of t) (omega arith),
  later-lt ts a b k lt (omega arith) is,
)

-- ---- the weights of a set by limits
later-weighed : (weight : Task → ℕ) (xs : List Task) (d : ℕ)
    → longer_limits (map (λ t. weighing t (weight t)) xs) d ≡ longer_limits xs d
later-weighed weight [] d = refl
later-weighed weight (t ∷ ts) d =
    one-more d (weighing t (weight t)) (map (λ t. weighing t (weight t)) ts)
    ∙ ap (λ n. cond (nat_lt d (limit_of t)) 1 0 + n) (later-weighed weight ts d)
    ∙ sym (one-more d t ts)

weighed-all : (U xs : List Task)
    → AllByRecursion (λ t. t.weight ≡ longer_limits U (limit_of t)) (map (reweighed_in U) xs)
weighed-all U [] = tt
weighed-all U (t ∷ ts) = (refl, weighed-all U ts)

same-map : (U xs : List Task) → AllByRecursion (λ t. t.weight ≡ longer_limits U (limit_of t)) xs
    → map (reweighed_in U) xs ≡ xs
same-map U [] h = refl
same-map U (t ∷ ts) h = rw (← h.0, same-map U ts h.1) refl

less-once : (a b : List ℕ) → slice_cmp nat_cmp a b ≡ Less → slice_cmp nat_cmp b a ≡ Less → ⊥
less-once a b p q = let e : Less ≡ Greater = sym p ∙ nat_list_cmp_total.antisymm a b
    ∙ ap ordering_reverse q in cc

lower-once : (x y : Task) → IsLower x y → IsLower y x → ⊥
lower-once x y (inl lt) (inl lt') = omega arith
lower-once x y (inl lt) (inr same) = omega (arith, same.0)
lower-once x y (inr same) (inl lt) = omega (arith, same.0)
lower-once x y (inr same) (inr same') = less-once x.name y.name same.1 same'.1

-- by weight and then by name
rank-by : (a b : ℕ) (o : Ordering) → ordering_then (nat_cmp a b) o ≡ Less → (a < b)
    ⊎ ((a ≡ b) × (o ≡ Less))
rank-by a b o e = elim (cases_order a b) [
  | inl same ↦
      let here : nat_cmp a b ≡ Equal = grind (arith, nat_tests) in
      inr (same, rw here at e)
  | inr (inl lt) ↦ inl lt
  | inr (inr lt) ↦
      let here : nat_cmp a b ≡ Greater = grind (arith, nat_tests) in
      let no : Greater ≡ Less = (rw here at e) in cc
]

module _ (U V : List Task) (preferred : IsByRank (reweighed U) V) where
  later-same : (d : ℕ) → longer_limits V d ≡ longer_limits U d
  later-same d =
      sum_by-IsPermutation (λ (t : Task). cond (nat_lt d (limit_of t)) 1 0) (reweighed U) V
      preferred.permutation
      ∙ later-weighed (λ t. longer_limits U (limit_of t)) U d

  weights : All (λ t. t.weight ≡ longer_limits V (limit_of t)) V
  weights k d lt =
      let P : Task → Type 0 = λ t. t.weight ≡ longer_limits U (limit_of t) in
      All-permutation P (reweighed U) V preferred.permutation
      (All-from_recursion P (reweighed U) (weighed-all U U)) k d lt
      ∙ sym (later-same (limit_of (get_or V k d)))

  pub weight-at : (k : ℕ) → k < length V
      → (task_at V k).weight ≡ longer_limits V (limit_of (task_at V k))
  weight-at k lt = weights k no_task lt

  pub weight-compare : (i j : ℕ) → i < length V → j < length V
      → ((task_at V i).weight < (task_at V j).weight)
      ↔ (limit_of (task_at V j) < limit_of (task_at V i))
  weight-compare i j within within' =
      let here = weight-at i within in
      let there = weight-at j within' in (
        λ less. elim (cases_lt (limit_of (task_at V j)) (limit_of (task_at V i))) [
          | inl lt ↦ lt
          | inr le ↦ absurd (omega (arith, here, there, later-le V _ _ le))
        ],
        λ lt. omega (arith, here, there, later-lt V _ _ i lt within refl),
      )

  -- preferred once more, the set is as it is
  pub preferred-again : IsByRank (reweighed V) V
  preferred-again =
      let same = same-map V V
      (recursion_from_All (λ t. t.weight ≡ longer_limits V (limit_of t)) V weights) in
      record { permutation = rw same (IsPermutation-refl V); ranked = preferred.ranked }

  -- ---- ranks
  lower-from : (i j : ℕ) → i < j → j < length V → IsLower (task_at V i) (task_at V j)
  lower-from i j lt within =
      let within' : i < length V = omega arith in
      let less = Less-from_sorted rank_cmp V i j no_task preferred.ranked lt within in
      elim (rank-by (task_at V i).weight (task_at V j).weight
      (slice_cmp nat_cmp (task_at V i).name (task_at V j).name) less) [
        | inl lighter ↦ inl ((weight-compare i j within' within).0 lighter)
        | inr tied ↦ elim (cases_order (limit_of (task_at V i)) (limit_of (task_at V j))) [
          | inl same ↦ inr (same, tied.1)
          | inr (inl before) ↦
              absurd (omega (arith, tied.0, (weight-compare j i within within').1 before))
          | inr (inr after) ↦
              absurd (omega (arith, tied.0, (weight-compare i j within' within).1 after))
        ]
      ]

  pub rank-lower : (i j : ℕ) → i < length V → j < length V → (i < j)
      ↔ IsLower (task_at V i) (task_at V j)
  rank-lower i j within within' = (
    λ lt. lower-from i j lt within',
    λ lower. elim (cases_order i j) [
      | inl same ↦ let own : IsLower (task_at V i) (task_at V i) = rw (← same) at lower in
          absurd (lower-once (task_at V i) (task_at V i) own own)
      | inr (inl lt) ↦ lt
      | inr (inr gt) ↦
          absurd (lower-once (task_at V i) (task_at V j) lower (lower-from j i gt within))
    ],
  )

  -- ---- orders
  pub better-nearer : (xs ys : List ℕ) → AllByRecursion (λ k. k < length V) xs
      → AllByRecursion (λ k. k < length V) ys → IsBetter xs ys ↔ IsNearer V xs ys
  better-nearer [] ys all all' = (λ no. no, λ no. no)
  better-nearer (x ∷ xs) [] all all' = (λ no. no, λ no. no)
  better-nearer (x ∷ xs) (y ∷ ys) all all' =
      let here = rank-lower x y all.0 all'.0 in
      let rest = better-nearer xs ys all.1 all'.1 in (
        λ better. elim better [
          | inl lt ↦ inl (here.0 lt)
          | inr later ↦ inr (later.0, rest.0 later.1)
        ],
        λ nearer. elim nearer [
          | inl lower ↦ inl (here.1 lower)
          | inr later ↦ inr (later.0, rest.1 later.1)
        ],
      )

  -- of two orders the better is the nearer to limit-monotonic
  pub better-nearer_order : (first second : List ℕ) → IsOrder V first → IsOrder V second
      → IsBetter first second ↔ IsNearer V first second
  better-nearer_order first second each each' = better-nearer first second
      (order-below (length V) (all_of V) first each (λ k h. h))
      (order-below (length V) (all_of V) second each' (λ k h. h))

  pub best-nearest : (order other : List ℕ) → IsBest V order → IsPassingOrder V other
      → (order ≡ other) ⊎ IsNearer V order other
  best-nearest order other best passing =
      let each = best.passing.each_once in
      elim (compare_orders (all_of V) order other each passing.each_once) [
        | inl same ↦ inl same
        | inr (inl better) ↦
            inr ((better-nearer_order order other each passing.each_once).0 better)
        | inr (inr better) ↦ absurd (best.unbeaten other passing better)
      ]
