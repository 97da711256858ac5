-- The least parts of a chain, and the bound that they come to.
use Rattle.std.proofs.Common.{◌≡◌, ℕ, ◌≤◌, Bool, true, false, List, [], ◌∷◌, ◌++◌, length, drop}
use Rattle.std.proofs.Common.{Option, Some, None, append-nil, cond, sym, ◌∙◌, arith, ap}
use Rattle.std.proofs.Common.{refl, subst}
use Rattle.std.specs.List.{AllZip, list_all}
use Rattle.std.proofs.lemmas.Option.{same_Some}
use Rattle.task_sheet.proofs.Common.{Task, Indexes, without_index, among, all_of, IsOrderOf}
use Rattle.task_sheet.proofs.Common.{IsPassingOrder, IsResponseOf}
use Rattle.task_sheet.proofs.IndexLaws.{IsOrderOf-among, IsOrderOf-rest}
use Rattle.chains.specs.Parts.{bound_in, has_response, order_of}
use Rattle.chains.specs.Walks.{IsNoLonger, bound_by, steps_with}
use Rattle.chains.proofs.LongestLaws.{no_longer_law}
use Rattle.chains.specs.declared.bounds.Level.{Level}
use Rattle.chains.specs.declared.bounds.Writes.{Writes}
use Rattle.chains.specs.declared.bounds.Writes.TheVariants.{AtDeadline}
use Rattle.assignment.specs.Places.{PlaceData}
use Rattle.assignment.specs.Placings.{IsBestPlacing, tasks_of_places}
use Rattle.assignment.specs.Placings as placed
use Rattle.least_chains.specs.LeastBound.{HaveResponses, ArePassing, AreLeastParts, IsLeastBound}
use Rattle.least_chains.specs.LeastBound.{IsLeastPart, levels_at, part_in, parts_in}
use Rattle.least_chains.proofs.StepLaws.{same-none}

-- ---- one bound or none
told : (b : Bool) (o : Option ℕ) (bound : ℕ) → cond b o None ≡ Some bound → o ≡ Some bound
told true o bound is = is
told false o bound is = absurd cc

untold : (b : Bool) (o : Option ℕ) → o ≡ None → cond b o None ≡ None
untold true o none = none
untold false o none = refl

module _ (writes : Writes) (U : List Task) where
  -- ---- the least parts
  -- none are left
  pub parts-end : (tasks rest parts : List ℕ) → length rest ≡ 0
      → ((more : List ℕ) → AreLeastParts writes U rest more → AreLeastParts writes U tasks (parts ++ more))
      → AreLeastParts writes U tasks parts
  parts-end tasks [] parts none so =
      subst (λ xs. AreLeastParts writes U tasks xs) (append-nil parts) (so [] refl)
  parts-end tasks (i ∷ rest) parts none so = absurd (omega (arith, none))

  -- there are no others
  least_part-one : (i : ℕ) (others : List ℕ) (first second : ℕ) → IsLeastPart writes U i others first
      → IsLeastPart writes U i others second → first ≡ second
  least_part-one i others first second here there = omega (
    arith,
    here.reached.2,
    here.least there.reached.0 there.reached.1,
    there.reached.2,
    there.least here.reached.0 here.reached.1,
  )

  least_parts-one : (tasks first second : List ℕ) → AreLeastParts writes U tasks first
      → AreLeastParts writes U tasks second → first ≡ second
  least_parts-one [] first second here there = here ∙ sym there
  least_parts-one (i ∷ others) [] second here there = absurd here
  least_parts-one (i ∷ others) first [] here there = absurd there
  least_parts-one (i ∷ others) (part ∷ first) (part' ∷ second) (here, more) (there, more') =
      ap (λ p. p ∷ first) (least_part-one i others part part' here there)
      ∙ ap (λ ps. part' ∷ ps) (least_parts-one others first second more more')

  -- in an order that passes none takes less
  least-steps : (offsets tasks parts : List ℕ) (levels : List Level) → AreLeastParts writes U tasks parts
      → ArePassing U levels
      → AllZip IsNoLonger (steps_with U offsets parts tasks)
      (steps_with U offsets (parts_in writes U levels tasks) tasks)
  least-steps offsets [] parts levels is are = tt
  least-steps offsets (i ∷ others) [] levels is are = absurd is
  least-steps offsets (i ∷ others) (part ∷ parts) levels (is, more) are = (
    record { period = refl; offset = refl; delay = is.least levels are },
    least-steps (drop 1 offsets) others parts levels more are,
  )

  -- ---- their bound
  module _ (offsets tasks : List ℕ) where
    pub least-held : (least bound : ℕ) (levels : List Level) → IsLeastBound writes offsets U tasks (Some least)
        → ArePassing U levels → bound_in writes offsets U levels tasks ≡ Some bound → least ≤ bound
    least-held least bound levels is are said =
        no_longer_law (steps_with U offsets is.parts tasks)
        (steps_with U offsets (parts_in writes U levels tasks) tasks) least bound
        (least-steps offsets tasks is.parts levels is.least are) is.comes
        (told (list_all (has_response levels) tasks) _ bound said)

    pub least-none : (levels : List Level) → IsLeastBound writes offsets U tasks None
        → bound_in writes offsets U levels tasks ≡ None
    least-none levels is = untold (list_all (has_response levels) tasks)
        (bound_by (steps_with U offsets (parts_in writes U levels tasks) tasks))
        (same-none U offsets is.parts (parts_in writes U levels tasks) tasks is.comes)

    pub least_bound-one : (first second : Option ℕ) → IsLeastBound writes offsets U tasks first
        → IsLeastBound writes offsets U tasks second → first ≡ second
    least_bound-one first second here there =
        sym here.comes
        ∙ (ap (λ parts. bound_by (steps_with U offsets parts tasks))
        (least_parts-one tasks here.parts there.parts here.least there.least)
        ∙ there.comes)

-- ---- at deadlines
module _ (U : List Task) where
  -- the least parts are those in each order
  deadline-parts : (tasks parts : List ℕ) (levels : List Level) → AreLeastParts AtDeadline U tasks parts
      → parts ≡ parts_in AtDeadline U levels tasks
  deadline-parts [] parts levels is = is
  deadline-parts (i ∷ others) [] levels is = absurd is
  deadline-parts (i ∷ others) (part ∷ parts) levels (is, more) =
      ap (λ p. p ∷ parts) (sym is.reached.2)
      ∙ ap (λ ps. part_in AtDeadline U levels i others ∷ ps) (deadline-parts others parts levels more)

  pub deadlines-reach : (offsets tasks : List ℕ) (least bound : ℕ) (levels : List Level)
      → IsLeastBound AtDeadline offsets U tasks (Some least)
      → bound_in AtDeadline offsets U levels tasks ≡ Some bound → least ≡ bound
  deadlines-reach offsets tasks least bound levels is said = same_Some least bound
      (sym is.comes
      ∙ (ap (λ parts. bound_by (steps_with U offsets parts tasks))
      (deadline-parts tasks is.parts levels is.least)
      ∙ told (list_all (has_response levels) tasks) _ bound said))

-- ---- the best order
module _ (U : List Task) where
  same-order : (places : List PlaceData) → order_of (levels_at places) ≡ tasks_of_places places
  same-order [] = refl
  same-order (p ∷ places) = ap (λ xs. p.task ∷ xs) (same-order places)

  responses-at : (L : Indexes) (places : List PlaceData) → IsOrderOf L (tasks_of_places places)
      → placed.AllRespond U L places → HaveResponses U (levels_at places)
  responses-at L [] each all = tt
  responses-at L (p ∷ places) each all =
      let rest = IsOrderOf-rest L p.task (tasks_of_places places) each in
      let above : without_index L p.task ≡ among (order_of (levels_at places)) =
      sym (IsOrderOf-among (without_index L p.task) (tasks_of_places places) rest)
      ∙ ap among (sym (same-order places)) in (
        subst (λ X. IsResponseOf U p.task X p.response) above all.0,
        responses-at (without_index L p.task) places rest all.1,
      )

  pub best-passing : (places : List PlaceData) → IsBestPlacing U places → ArePassing U (levels_at places)
  best-passing places is = record {
    order = subst (λ xs. IsPassingOrder U xs) (sym (same-order places)) is.best.passing;
    each = responses-at (all_of U) places is.best.passing.each_once is.each;
  }
