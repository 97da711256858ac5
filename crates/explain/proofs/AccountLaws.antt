-- The responses of an order, each with its parts.
use Rattle.std.proofs.Common.{◌≡◌, ℕ, ◌<◌, ◌≤◌, List, [], ◌∷◌, length, All, arith}
use Rattle.std.proofs.lemmas.Bool.{ltb-true}
use Rattle.std.proofs.lemmas.List.Elements.{All-from_recursion}
use Rattle.task_sheet.proofs.Common.{Task, AllTasks, IsTaskSet, Indexes, IsPart, without_index}
use Rattle.task_sheet.proofs.Common.{among, IsResponseOf, all_of, IsOrderOf, AllStand}
use Rattle.task_sheet.proofs.IndexLaws.{without-part_of, IsOrderOf-among, IsOrderOf-head}
use Rattle.task_sheet.proofs.IndexLaws.{IsOrderOf-rest, order-below}
use Rattle.task_sheet.proofs.PassingLaws.{IsResponseOf-one, Passes-iff_response}
use Rattle.task_sheet.proofs.TaskLaws.{AllTasks-from_set}
use Rattle.assignment.specs.Places.{PlaceData}
use Rattle.assignment.specs.Placings.{tasks_of_places, AllRespond, IsBestPlacing}
use Rattle.explain.specs.Accounts.{AreInTime}

-- each response of an order that passes is in time
module _ (U : List Task) (valid : AllTasks U) where
  in-time : (L : Indexes) (places : List PlaceData) → IsOrderOf L (tasks_of_places places)
      → IsPart L (all_of U) → AllRespond U L places → AllStand U (tasks_of_places places)
      → AreInTime U places
  in-time L [] each part responds stands = tt
  in-time L (p ∷ places) each part responds stands =
      let above = tasks_of_places places in
      let rest : IsOrderOf (without_index L p.task) above = IsOrderOf-rest L p.task above each in
      let part' = without-part_of (length U) L p.task part in
      let same : among above ≡ without_index L p.task =
      IsOrderOf-among (without_index L p.task) above rest in
      let lt : p.task < length U =
      ltb-true p.task (length U) (part p.task (IsOrderOf-head L p.task above each)) in
      let response : IsResponseOf U p.task (among above) p.response = rw same responds.0 in
      let found = (Passes-iff_response U valid p.task (among above) lt).0 stands.0.0 in (
        record {
          in_set = lt;
          others = All-from_recursion (λ k. k < length U) above
              (order-below (length U) (without_index L p.task) above rest part');
          response = response;
          in_time = omega (
            arith,
            IsResponseOf-one U p.task (among above) p.response found.0
                response found.1,
            found.2,
          );
        },
        in-time (without_index L p.task) places rest part' responds.1 stands.1,
      )

pub best-in_time : (U : List Task) (places : List PlaceData) → IsTaskSet U → IsBestPlacing U places
    → AreInTime U places
best-in_time U places set best =
    in-time U (AllTasks-from_set U set) (all_of U) places best.best.passing.each_once (λ k h. h)
    best.each best.best.passing.each_stands

pub tasks-within : (n m : ℕ) (tasks : List ℕ) → n ≤ m → All (λ k. k < n) tasks
    → All (λ k. k < m) tasks
tasks-within n m tasks le all k d lt = omega (arith, le, all k d lt)
