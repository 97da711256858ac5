-- Passing at a factor: with lesser factors, never from the end of all factors on, and the greatest.
use Rattle.std.proofs.Common.{◌↔◌, ℕ, Bool, IsTrue, ◌<◌, ◌≤◌, List, [], ◌∷◌, length, Option, Some, None, arith}
use Rattle.std.proofs.Math.Nat.{mul-le-mul_left}
use Rattle.std.proofs.lemmas.Bool.{lt-ltb, ltb-true}
use Rattle.task_sheet.proofs.Common.{Task, IsTaskSet, Indexes, no_task, demand_of, among, all_of}
use Rattle.task_sheet.proofs.DemandLaws.{demand_does_not_fall}
use Rattle.task_sheet.proofs.IndexLaws.{IsOrderOf-head}
use Rattle.task_sheet.proofs.TaskLaws.{AllTasks-from_set}
use Rattle.response_time.proofs.SlowedLaws.{Slowed, slowed-less}
use Rattle.latest_first.specs.Tested.{IsPassingBy}
use Rattle.other_numbers.proofs.EasierLaws.{kept-le, easier-itself, PassesWhere-easier, PassesInBy-easier}
use Rattle.limits.specs.Bisection.{IsEdge}
use Rattle.limits.proofs.EdgeLaws.{last-edge}
use Rattle.factor.specs.Factors.{PassesAt, PassesInAt}

module _ (U : List Task) where
  pub passes-less : (low high : ℕ) → low ≤ high → (i : ℕ) (H : Indexes) → PassesAt high U i H → PassesAt low U i H
  passes-less low high le =
      PassesWhere-easier ◌≤◌ kept-le U U (easier-itself U) (Slowed high) (Slowed low) (slowed-less low high le)

  pub at-less : (low high : ℕ) → low ≤ high → (order : Option (List ℕ)) → PassesInAt high order U → PassesInAt low order U
  at-less low high le =
      PassesInBy-easier ◌≤◌ kept-le U U (easier-itself U) (Slowed high) (Slowed low) (slowed-less low high le)

  module _ (set : IsTaskSet U) (some : 0 < length U) where
    -- of a set no task passes with any factor
    order-short : (f : ℕ) (order : List ℕ) → IsPassingBy (PassesAt f U) U order → f < 10000000001
    order-short f [] passing = absurd (omega (arith, rw (lt-ltb 0 (length U) some) at (passing.each_once 0)))
    order-short f (i ∷ above) passing =
        let lt = ltb-true i (length U) (IsOrderOf-head (all_of U) i above passing.each_once) in
        let (t, positive, within, covers) = passing.each_stands.0.0 in
        let valid = set.valid i no_task lt in
        let need : 1 ≤ demand_of U i (among above) t =
        (demand_does_not_fall U (AllTasks-from_set U set) i (among above) lt).positive t in
        omega (arith, mul-le-mul_left f need, covers, within, valid.deadline_to, valid.period_to)

    pub at-short : (f : ℕ) (order : Option (List ℕ)) → PassesInAt f order U → f < 10000000001
    at-short f (Some order) passing = order-short f order passing
    at-short f None passes = order-short f passes.0 passes.1

    -- where a test of factors stops to say that it passes is the greatest factor
    pub greatest-edge : (Says : ℕ → Bool → Type 0) (order : Option (List ℕ)) (edge : ℕ)
        → IsEdge Says 0 10000000001 edge
        → ((f : ℕ) (answer : Bool) → Says f answer → IsTrue answer ↔ PassesInAt f order U)
        → (1 ≤ edge → PassesInAt edge order U) × ((f : ℕ) → edge < f → ¬ PassesInAt f order U)
    greatest-edge Says order edge is says =
        let last = last-edge Says (λ f. 1 ≤ f → PassesInAt f order U) 0 10000000001 edge is
        (λ none. absurd (omega (arith, none)))
        (λ f answer from lt said. (λ so _. (says f answer said).0 so, λ holds. (says f answer said).1 (holds from)))
        (λ low high from le lt holds low-some. at-less low high le order (holds (omega (arith, low-some, le)))) in
        (last.0, λ f past passes. last.1 f past (at-short f order passes) (λ _. passes))
