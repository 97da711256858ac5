-- The bound of a seat is within the deadline.
use Rattle.std.proofs.Common.{◌≡◌, ℕ, ◌+◌, ◌-◌, ◌<◌, ◌≤◌, inl, inr, List, [], ◌∷◌, length, Some}
use Rattle.std.proofs.Common.{sym, subst, arith, eqb}
use Rattle.std.proofs.lemmas.Bool.{cases_Bool, eqb-true, ltb-true}
use Rattle.task_sheet.proofs.Common.{Task, task_at, AllTasks, IsTaskSet, Indexes, IsPart}
use Rattle.task_sheet.proofs.Common.{without_index, among, IsResponseOf, all_of, IsOrderOf}
use Rattle.task_sheet.proofs.Common.{AllStand}
use Rattle.task_sheet.proofs.IndexLaws.{without-part_of, IsOrderOf-among, IsOrderOf-head}
use Rattle.task_sheet.proofs.IndexLaws.{IsOrderOf-rest}
use Rattle.task_sheet.proofs.PassingLaws.{IsResponseOf-one, Passes-iff_response}
use Rattle.task_sheet.proofs.TaskLaws.{AllTasks-from_set}
use Rattle.assignment.specs.Places.{PlaceData}
use Rattle.assignment.specs.Placings.{tasks_of_places, AllRespond, IsPlacingOf}
use Rattle.assignment.specs.declared.placing.Placing.{Placing}
use Rattle.assignment.specs.declared.placing.Placing.TheVariants.{Best, Stuck}
use Rattle.diff.specs.Seats.{seat_at, seat_in, seat_of}
use Rattle.diff.specs.declared.seats.Seat.{Seat}

-- each response of an order that passes is within the deadline
AllWithin : List Task → List PlaceData → Type 0
AllWithin U [] = Unit {0}
AllWithin U (p ∷ places) = (p.response ≤ (task_at U p.task).deadline) × AllWithin U places

module _ (U : List Task) (valid : AllTasks U) where
  within : (L : Indexes) (places : List PlaceData) → IsOrderOf L (tasks_of_places places) → IsPart L
      (all_of U) → AllRespond U L places → AllStand U (tasks_of_places places) → AllWithin U places
  unfolding AllWithin
  within L [] each part responds stands = tt
  within L (p ∷ places) each part responds stands =
      let above = tasks_of_places places in
      let rest : IsOrderOf (without_index L p.task) above = IsOrderOf-rest L p.task above each in
      let part' = without-part_of (length U) L p.task part in
      let same : among above ≡ without_index L p.task =
      IsOrderOf-among (without_index L p.task) above rest in
      let lt : p.task < length U =
      ltb-true p.task (length U) (part p.task (IsOrderOf-head L p.task above each)) in
      let response : IsResponseOf U p.task (among above) p.response =
      subst (λ (X : Indexes). IsResponseOf U p.task X p.response) (sym same) responds.0 in
      let found = (Passes-iff_response U valid p.task (among above) lt).0 stands.0.0 in (
        omega (
          arith,
          IsResponseOf-one U p.task (among above) p.response found.0 response found.1,
          found.2,
        ),
        within (without_index L p.task) places rest part' responds.1 stands.1,
      )

-- so is the bound of the seat there, and its slack is what is left
seat_within : (U : List Task) (task level : ℕ) (places : List PlaceData) (s : Seat)
    → AllWithin U places → seat_in level (task_at U task).deadline places task ≡ Some s
    → s.bound + s.slack ≡ (task_at U task).deadline
unfolding AllWithin
seat_within U task level [] s all is = absurd (cc)
seat_within U task level (p ∷ places) s all is =
    elim (cases_Bool (eqb p.task task)) [
      | inl same ↦
          let here : Some (seat_at level (task_at U task).deadline p.response) ≡ Some s =
          (rw same at is) in
          let one : seat_at level (task_at U task).deadline p.response ≡ s = cc in
          let in_time : p.response ≤ (task_at U task).deadline = subst (λ (k : ℕ). p.response
          ≤ (task_at U k).deadline) (eqb-true p.task task same) all.0 in
          let whole : p.response + ((task_at U task).deadline - p.response)
          ≡ (task_at U task).deadline = omega (arith, in_time) in
          subst (λ (x : Seat). x.bound + x.slack ≡ (task_at U task).deadline) one whole
      | inr other ↦ seat_within U task (level + 1) places s all.1 (rw other at is)
    ]

pub slack_is_left : (U : List Task) (P : Placing) (task : ℕ) (s : Seat) → IsTaskSet U
    → IsPlacingOf U P → seat_of U P task ≡ Some s → s.bound + s.slack ≡ (task_at U task).deadline
slack_is_left U (Best places) task s set placing is =
    seat_within U task 1 places.items s
    (within U (AllTasks-from_set U set) (all_of U) places.items placing.best.passing.each_once
    (λ k h. h) placing.each placing.best.passing.each_stands)
    is
slack_is_left U (Stuck members) task s set placing is = absurd (cc)
