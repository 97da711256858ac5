-- Where a limit-monotonic order of a set by limits passes, the best order is limit-monotonic.
use Rattle.std.proofs.Common.{◌≡◌, ℕ, ◌<◌, ◌≤◌, inl, inr, true, false, ◌==◌, List, [], ◌∷◌, length}
use Rattle.std.proofs.Common.{refl, sym, ◌∙◌, ap, arith}
use Rattle.std.specs.List.{AllByRecursion}
use Rattle.std.proofs.lemmas.Bool.{cases_order, eq-eqb, eqb-true, or_cases, or_left}
use Rattle.std.proofs.lemmas.Bool.{or_right, ltb-true}
use Rattle.task_sheet.proofs.Common.{Task, AllTasks, task_at, IsByRank, Indexes, IsPart, among}
use Rattle.task_sheet.proofs.Common.{without_index, limit_of, all_of, IsOrderOf, AllStand}
use Rattle.task_sheet.proofs.Common.{IsPassingOrder, IsBetter, IsBest}
use Rattle.task_sheet.proofs.IndexLaws.{without-parts, without-part_of, IsOrderOf-among}
use Rattle.task_sheet.proofs.IndexLaws.{IsOrderOf-head, IsOrderOf-rest, IsOrderOf-cons}
use Rattle.latest_first.proofs.WithoutOne.{less, less-by, less-all, less-order, less-stand}
use Rattle.preferences.specs.Preferences.{reweighed}
use Rattle.preferences.specs.LimitOrders.{IsMonotonic}
use Rattle.preferences.proofs.LimitLaws.{rank-lower}

less-monotonic : (U : List Task) (b : ℕ) (xs : List ℕ) → IsMonotonic U xs
    → IsMonotonic U (less b xs)
less-monotonic U b [] falls = tt
less-monotonic U b (x ∷ xs) falls =
    less-by (IsMonotonic U) b x xs (λ e. falls.1)
    (λ ne. (
      less-all (λ k. limit_of (task_at U k) ≤ limit_of (task_at U x)) b xs falls.0,
      less-monotonic U b xs falls.1,
    ))

-- each index that a list names has what all of the list have
all-among : (P : ℕ → Type 0) (xs : List ℕ) → AllByRecursion P xs → (k : ℕ) → among xs k ≡ true → P k
all-among P [] all k h = cc
all-among P (x ∷ xs) all k h = elim (or_cases (x == k) (among xs k) h) [
  | inl here ↦ rw (← eqb-true x k here) all.0
  | inr later ↦ all-among P xs all.1 k later
]

-- and the other way
all-from : (P : ℕ → Type 0) (xs : List ℕ) → ((k : ℕ) → among xs k ≡ true → P k)
    → AllByRecursion P xs
all-from P [] each = tt
all-from P (x ∷ xs) each = (
  each x (or_left (x == x) (among xs x) (eq-eqb x x refl)),
  all-from P xs
      (λ k h. each k (or_right (x == k) (among xs k) h)),
)

module _ (U V : List Task) (preferred : IsByRank (reweighed U) V) (valid : AllTasks V) where
  -- the task of lesser rank has no shorter limit
  latest : (b s : ℕ) → b < length V → s < length V → (s < b → ⊥)
      → limit_of (task_at V s) ≤ limit_of (task_at V b)
  latest b s within within' not-before = elim (cases_order s b) [
    | inl e ↦ omega (arith, ap (λ k. limit_of (task_at V k)) e)
    | inr (inl lt) ↦ absurd (not-before lt)
    | inr (inr gt) ↦ elim ((rank-lower U V preferred b s within within').0 gt) [
      | inl later ↦ omega arith
      | inr same ↦ omega (arith, same.0)
    ]
  ]

  monotonic-from : (L : Indexes) (best other : List ℕ) → IsPart L (all_of V) → IsOrderOf L best
      → AllStand V best
      → ((xs : List ℕ) → IsOrderOf L xs → AllStand V xs → ¬ IsBetter xs best)
      → IsOrderOf L other → AllStand V other → IsMonotonic V other → IsMonotonic V best
  monotonic-from L [] other part each all unbeaten each' all' falls = tt
  monotonic-from L (b ∷ bs) [] part each all unbeaten each' all' falls =
      let none : false ≡ true = ap (λ (X : Indexes). X b) (IsOrderOf-among L [] each')
      ∙ IsOrderOf-head L b bs each in
      absurd (cc)
  monotonic-from L (b ∷ bs) (s ∷ ss) part each all unbeaten each' all' falls =
      let member = IsOrderOf-head L b bs each in
      let first = IsOrderOf-head L s ss each' in
      let rest = IsOrderOf-rest L b bs each in
      let left : among bs ≡ without_index L b = IsOrderOf-among (without_index L b) bs rest in
      let within = ltb-true b (length V) (part b member) in
      let within' = ltb-true s (length V) (part s first) in
      let top = latest b s within within' (λ lt. unbeaten (s ∷ ss) each' all' (inl lt)) in
      let named : among (s ∷ ss) ≡ L = IsOrderOf-among L (s ∷ ss) each' in
      let highest : (k : ℕ) → L k ≡ true → limit_of (task_at V k) ≤ limit_of (task_at V s) =
      λ k h. all-among (λ j. limit_of (task_at V j) ≤ limit_of (task_at V s)) (s ∷ ss)
      (omega arith, falls.0) k (ap (λ (X : Indexes). X k) named ∙ h) in (
        all-from (λ k. limit_of (task_at V k) ≤ limit_of (task_at V b)) bs (λ k h.
            omega (
              arith,
              top,
              highest k
                  (without-parts L b k (ap (λ (X : Indexes). X k) (sym left) ∙ h)).0,
            )),
        monotonic-from (without_index L b) bs (less b (s ∷ ss))
            (without-part_of (length V) L b part) rest all.1
            (λ xs order stand better. unbeaten (b ∷ xs) (IsOrderOf-cons L b xs member order)
            (rw (IsOrderOf-among (without_index L b) xs order, ← left) all.0, stand)
            (inr (refl, better)))
            (less-order L b (s ∷ ss) member each') (less-stand V valid b (s ∷ ss) all')
            (less-monotonic V b (s ∷ ss) falls),
      )

  pub best-monotonic : (order other : List ℕ) → IsBest V order → IsPassingOrder V other
      → IsMonotonic V other → IsMonotonic V order
  best-monotonic order other best passing falls =
      monotonic-from (all_of V) order other (λ k h. h) best.passing.each_once
      best.passing.each_stands
      (λ xs each all. best.unbeaten xs record { each_once = each; each_stands = all })
      passing.each_once passing.each_stands falls
