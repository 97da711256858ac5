-- Orders that keep a list, task by task, and those that keep a part of it from its lowest task up.
use Rattle.std.proofs.Common.{◌≡◌, ℕ, inl, inr, Bool, true, false, ◌==◌, ◌&&◌, ◌||◌, ◌+◌, ◌<◌}
use Rattle.std.proofs.Common.{List, [], ◌∷◌, length, get_or, drop, refl, sym, ◌∙◌, ap, subst, ◌-◌}
use Rattle.std.proofs.Common.{◌≤◌, ◌++◌, take, arith, append_assoc}
use Rattle.std.proofs.lemmas.Bool.{or_cases, or_left, or_right, or_parts, or_from, and_parts}
use Rattle.std.proofs.lemmas.Bool.{and_from, both_ways, false_from_ne_true, true≢false, eq-eqb}
use Rattle.std.proofs.lemmas.Bool.{eqb-true}
use Rattle.std.proofs.lemmas.List.{at_drop_more, take_more, take-append-drop}
use Rattle.std.proofs.lemmas.List.Folds.{list_any-append}
use Rattle.task_sheet.proofs.Common.{Task, AllTasks, Indexes, IsPart, among, Stands, IsLeastOver}
use Rattle.task_sheet.proofs.PassingLaws.{Stands-part, must_outrank_any-at}
use Rattle.kept_order.specs.Keeping.{stands_below, Keeps, is_held, StandsKept, IsPassingKept}
use Rattle.kept_order.specs.Keeping.{IsFirstParted}

-- ---- a task that is held
held-below : (kept : List ℕ) (H : Indexes) (i k : ℕ) → H k ≡ true → stands_below kept k i ≡ true
    → is_held kept H i ≡ true
held-below [] H i k member below = absurd (true≢false (sym below))
held-below (x ∷ above) H i k member below =
    elim (or_cases ((x == k) && among above i) (stands_below above k i) below) [
      | inl here ↦
          let both = and_parts (x == k) (among above i) here in
          or_left _ _ (and_from _ _ (ap H (eqb-true x k both.0) ∙ member) both.1)
      | inr later ↦ or_right _ _ (held-below above H i k member later)
    ]

below-held : (kept : List ℕ) (H : Indexes) (i : ℕ) → is_held kept H i ≡ true
    → (k : ℕ) × (H k ≡ true) × (stands_below kept k i ≡ true)
below-held [] H i held = absurd (true≢false (sym held))
below-held (x ∷ above) H i held = elim (or_cases (H x && among above i) (is_held above H i) held) [
  | inl here ↦
      let both = and_parts (H x) (among above i) here in
      (x, both.0, or_left _ _ (and_from _ _ (eq-eqb x x refl) both.1))
  | inr later ↦
      let found = below-held above H i later in
      (found.0, found.1, or_right _ _ found.2)
]

-- fewer hold less
pub StandsKept-part : (U : List Task) (kept : List ℕ) (i : ℕ) (H G : Indexes) → AllTasks U
    → IsPart H G → StandsKept U kept i G → StandsKept U kept i H
StandsKept-part U kept i H G valid part stands = (
  Stands-part U valid i H G part stands.0,
  false_from_ne_true _ (λ held.
      let found = below-held kept H i held in
      both_ways _ stands.1 (held-below kept G i found.0 (part found.0 found.1) found.2)),
)

-- the list from a place on
pub held-step : (kept : List ℕ) (H : Indexes) (i k : ℕ) (b : Bool) → k < length kept
    → b ≡ (H (get_or kept k 0) && among (drop (k + 1) kept) i)
    → is_held (drop k kept) H i ≡ (b || is_held (drop (k + 1) kept) H i)
held-step kept H i k b lt is = at_drop_more (λ xs. is_held xs H i) kept k 0 lt
    ∙ ap (λ a. a || is_held (drop (k + 1) kept) H i) (sym is)

-- a task that must stand above one that is above it may not stand
pub over_fails : (U : List Task) (i : ℕ) (H : Indexes) (k : ℕ) → IsLeastOver U i H k
    → ¬ Stands U i H
over_fails U i H k over stands =
    both_ways _ stands.1 (must_outrank_any-at U i H k over.in_set over.above over.named)

-- ---- an order that keeps a list, from its lowest task up
pub Keeps-head : (kept : List ℕ) (i : ℕ) (above : List ℕ) → Keeps kept (i ∷ above)
    → is_held kept (among above) i ≡ false
Keeps-head kept i above keeps = false_from_ne_true _ (λ held.
    let found = below-held kept (among above) i held in
    both_ways _ (keeps found.0 i found.2)
    (or_left _ _ (and_from _ _ (eq-eqb i i refl) found.1)))

pub Keeps-rest : (kept : List ℕ) (i : ℕ) (above : List ℕ) → Keeps kept (i ∷ above)
    → Keeps kept above
Keeps-rest kept i above keeps a b below = (or_parts _ _ (keeps a b below)).1

pub Keeps-cons : (kept : List ℕ) (i : ℕ) (above : List ℕ) → is_held kept (among above) i ≡ false
    → Keeps kept above → Keeps kept (i ∷ above)
Keeps-cons kept i above free keeps a b below = or_from _ _ (false_from_ne_true _ (λ here.
    let both = and_parts (i == b) (among above a) here in
    both_ways _ free (held-below kept (among above) i a both.1
    (subst (λ m. stands_below kept a m ≡ true) (sym (eqb-true i b both.0)) below))))
    (keeps a b below)

below-part : (xs ys : List ℕ) (i k : ℕ) → stands_below xs i k ≡ true
    → stands_below (xs ++ ys) i k ≡ true
below-part [] ys i k below = absurd (true≢false (sym below))
below-part (x ∷ xs) ys i k below =
    elim (or_cases ((x == i) && among xs k) (stands_below xs i k) below) [
      | inl here ↦
          let both = and_parts (x == i) (among xs k) here in
          or_left _ _ (and_from _ _ both.0
          (list_any-append (λ v. v == k) xs ys ∙ or_left _ _ both.1))
      | inr later ↦ or_right _ _ (below-part xs ys i k later)
    ]

pub Keeps-part : (xs ys order : List ℕ) → Keeps (xs ++ ys) order → Keeps xs order
Keeps-part xs ys order keeps i k below = keeps i k (below-part xs ys i k below)

-- ---- the first part that no order keeps
-- some order that passes keeps the lowest n tasks
abbrev pub SomeKeeps : List Task → List ℕ → ℕ → Type 0
SomeKeeps U kept n = (order : List ℕ) × IsPassingKept U (take n kept) order

-- the part up to a place is kept, and that with the next task is not: these two part
pub IsFirstParted-at : (U : List Task) (kept : List ℕ) (n : ℕ) → 1 ≤ n → n < length kept
    → SomeKeeps U kept n → ((order : List ℕ) → ¬ IsPassingKept U (take (n + 1) kept) order)
    → IsFirstParted U kept (get_or kept (n - 1) 0) (get_or kept n 0)
IsFirstParted-at U kept n from lt some none =
    let j = n - 1 in
    let low = get_or kept j 0 in
    let high = get_or kept n 0 in
    let next : j + 1 ≡ n = omega (arith, from) in
    let short : take n kept ≡ take j kept ++ low ∷ [] = ap (λ m. take m kept) (sym next)
    ∙ take_more kept j 0 (omega (arith, from, lt)) in
    let long : take (n + 1) kept ≡ take j kept ++ low ∷ high ∷ [] = take_more kept n 0 lt
    ∙ ap (λ xs. xs ++ high ∷ []) short ∙ append_assoc (take j kept) (low ∷ []) (high ∷ []) in
    record {
      below = take j kept;
      above = drop (n + 1) kept;
      parts = sym (take-append-drop (n + 1) kept) ∙ ap (λ xs. xs ++ drop (n + 1) kept) long
          ∙ append_assoc (take j kept) (low ∷ high ∷ []) (drop (n + 1) kept);
      some = subst (λ xs. (order : List ℕ) × IsPassingKept U xs order) short some;
      none = subst (λ xs. (order : List ℕ) → ¬ IsPassingKept U xs order) long none;
    }
