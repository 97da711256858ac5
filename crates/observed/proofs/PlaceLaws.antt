-- The tasks of places.
use Rattle.std.proofs.Common.{◌≡◌, ℕ, zero, suc, ◌+◌, ◌<◌, List, [], ◌∷◌, length, get_or, All, sym, ◌∙◌}
use Rattle.std.proofs.Common.{ap₂, subst, arith}
use Rattle.std.proofs.lemmas.List.{get_or_default}
use Rattle.task_sheet.proofs.Common.{Task, no_task, task_at, all_of, IsOrder}
use Rattle.std.specs.List.{AllByRecursion}
use Rattle.task_sheet.proofs.IndexLaws.{order-below}
use Rattle.assignment.specs.Places.{PlaceData}
use Rattle.assignment.specs.Placings.{IsBestPlacing, tasks_of_places}
use Rattle.observed.specs.Promises.{promises_from}
use Rattle.observed.specs.declared.promises.Promise.{Promise}

-- within a number behind the first, too
pub rest-within : (n : ℕ) (places above : List PlaceData) (p : PlaceData) → places ≡ p ∷ above
    → All (λ (q : PlaceData). q.task < n) places → All (λ (q : PlaceData). q.task < n) above
rest-within n places above p same all k d lt =
    let here : All (λ (q : PlaceData). q.task < n) (p ∷ above) =
    subst (λ (ps : List PlaceData). All (λ (q : PlaceData). q.task < n) ps) same all in
    here (suc k) d (omega (arith, lt))

-- a sheet that was read
pub sheet-at : (U S : List Task) (i k : ℕ) (r : Task) → S ≡ U → i ≡ k → k < length U
    → r ≡ get_or S i r → r ≡ task_at U k
sheet-at U S i k r same at lt is = is ∙ ap₂ (λ (V : List Task) (n : ℕ). get_or V n r) same at
    ∙ sym (get_or_default U k no_task r lt)

-- the tasks of places are within a number
places-below : (n : ℕ) (places : List PlaceData) → AllByRecursion (λ k. k < n)
    (tasks_of_places places) → All (λ (p : PlaceData). p.task < n) places
places-below n [] all k d lt = absurd (omega (arith, lt))
places-below n (p ∷ places) all zero d lt = all.0
places-below n (p ∷ places) all (suc k) d lt = places-below n places all.1 k d (omega (arith, lt))

-- the tasks of an order are those of the set
pub order-within : (U : List Task) (places : List PlaceData) → IsOrder U (tasks_of_places places)
    → All (λ (p : PlaceData). p.task < length U) places
order-within U places each = places-below (length U) places
    (order-below (length U) (all_of U) (tasks_of_places places) each (λ k is. is))

-- and so are those of the best one
pub best-within : (U : List Task) (places : List PlaceData) → IsBestPlacing U places
    → All (λ (p : PlaceData). p.task < length U) places
best-within U places best = order-within U places best.best.passing.each_once

-- and so are those of what is promised
pub promised-within : (n : ℕ) (U : List Task) (numbers : List ℕ) (level : ℕ) (places : List PlaceData)
    → All (λ (p : PlaceData). p.task < n) places
    → All (λ (p : Promise). p.task < n) (promises_from U numbers level places)
promised-within n U numbers level [] all k d lt = absurd (omega (arith, lt))
promised-within n U numbers level (p ∷ places) all zero d lt = all 0 p (omega (arith))
promised-within n U numbers level (p ∷ places) all (suc k) d lt =
    promised-within n U numbers (level + 1) places (λ j e less. all (suc j) e (omega (arith, less))) k d
    (omega (arith, lt))
