-- What is kept of a set's verdict, or of its placing.
use Rattle.std.proofs.Common.{◌≡◌, ℕ, zero, suc, ◌<◌, ◌≤◌, List, [], ◌∷◌, length, All}
use Rattle.std.proofs.Common.{refl, sym, ◌∙◌, ap, subst, arith}
use Rattle.std.specs.List.{AllByRecursion}
use Rattle.std.proofs.lemmas.List.{length-map}
use Rattle.std.specs.Ordering.{nat_cmp}
use Rattle.std.specs.FinSet.{FinSet}
use Rattle.task_sheet.proofs.Common.{Task, Indexes, indexes_of, without_index, among, listed_below}
use Rattle.task_sheet.proofs.Common.{LevelData, FailureData, IsBestOrder, AllLevels, order_of, tasks_of}
use Rattle.task_sheet.specs.Levels.{IsGreatestObstruction}
use Rattle.task_sheet.specs.Verdicts.{IsStuck}
use Rattle.task_sheet.specs.Orders.{all_of, IsBest}
use Rattle.task_sheet.proofs.IndexLaws.{same_parts, listed-among, listed-below, order-few}
use Rattle.assignment.specs.Places.{PlaceData}
use Rattle.assignment.specs.Placings.{tasks_of_places, AllRespond, IsBestPlacing, places_of}
use Rattle.drafts.specs.Placed.{AreStuck}

-- ---- members
pub AreStuck-one : (U : List Task) (xs ys : List ℕ) → AreStuck U xs → AreStuck U ys → xs ≡ ys
AreStuck-one U xs ys first second =
    let same = same_parts (among xs) (among ys)
    (second.greatest.greatest (among xs) first.greatest.obstruction)
    (first.greatest.greatest (among ys) second.greatest.obstruction) in
    first.ranked ∙ ap (λ L. listed_below (length U) L) same ∙ sym second.ranked

-- the members of the greatest obstruction, listed
pub listed-stuck : (U : List Task) (members : FinSet nat_cmp)
    → IsGreatestObstruction U (indexes_of members)
    → AreStuck U (listed_below (length U) (indexes_of members))
listed-stuck U members greatest =
    let same = listed-among (length U) (indexes_of members) greatest.obstruction.within in
    record {
      greatest = subst (λ L. IsGreatestObstruction U L) (sym same) greatest;
      ranked = ap (λ L. listed_below (length U) L) (sym same);
    }

-- those of an obstruction, which are tasks of the set
fails-below : (n : ℕ) (fails : List FailureData) → AllByRecursion (λ k. k < n) (tasks_of fails)
    → All (λ (f : FailureData). f.task < n) fails
fails-below n [] all k d lt = absurd (omega (arith, lt))
fails-below n (f ∷ fails) all zero d lt = all.0
fails-below n (f ∷ fails) all (suc k) d lt = fails-below n fails all.1 k d (omega (arith, lt))

pub stuck-below : (U : List Task) (n : ℕ) (fails : List FailureData) → length U ≤ n
    → IsStuck U fails → All (λ (f : FailureData). f.task < n) fails
stuck-below U n fails few stuck = fails-below n fails
    (subst (λ (ks : List ℕ). AllByRecursion (λ k. k < n) ks) (sym stuck.ranked)
    (listed-below (length U) n (among (tasks_of fails)) few))

pub stuck-kept : (U : List Task) (fails : List FailureData) → IsStuck U fails
    → AreStuck U (tasks_of fails)
stuck-kept U fails stuck = record { greatest = stuck.greatest; ranked = stuck.ranked }

-- and as they are kept
pub stuck-as : (U : List Task) (members : FinSet nat_cmp) (fails : List FailureData)
    → IsStuck U fails → indexes_of members ≡ among (tasks_of fails)
    → IsGreatestObstruction U (indexes_of members)
stuck-as U members fails stuck same =
    subst (λ L. IsGreatestObstruction U L) (sym same) stuck.greatest

-- ---- places
levels-order : (levels : List LevelData) → tasks_of_places (places_of levels) ≡ order_of levels
levels-order [] = refl
levels-order (l ∷ levels) = ap (λ ts. l.task ∷ ts) (levels-order levels)

levels-respond : (U : List Task) (L : Indexes) (levels : List LevelData) → AllLevels U L levels
    → AllRespond U L (places_of levels)
levels-respond U L [] each = tt
levels-respond U L (l ∷ levels) each =
    (each.0.response, levels-respond U (without_index L l.task) levels each.1)

pub order-kept : (U : List Task) (levels : List LevelData) → IsBestOrder U levels
    → IsBestPlacing U (places_of levels)
order-kept U levels best = record {
  best = subst (λ order. IsBest U order) (sym (levels-order levels)) best.best;
  each = levels-respond U (all_of U) levels best.each;
}

-- there are as many levels as tasks, at most
pub levels-few : (U : List Task) (levels : List LevelData) → IsBestOrder U levels
    → length levels ≤ length U
levels-few U levels best = omega (
  arith,
  length-map levels (λ (l : LevelData). l.task),
  order-few (length U) (all_of U) (order_of levels) best.best.passing.each_once (λ k is. is),
)
