-- Each time of an explanation is what its parts come to.
use Rattle.std.proofs.Common.{◌≡◌, ℕ, List, [], ◌∷◌, length, reverse, sym, ◌∙◌, subst, arith}
use Rattle.std.specs.List.{AllByRecursion}
use Rattle.task_sheet.proofs.Common.{Task, task_at, IsTaskSet, Indexes, IsPart, indexes_of}
use Rattle.task_sheet.proofs.Common.{without_index, among, listed_below, demand_of, limit_of}
use Rattle.task_sheet.proofs.Common.{all_of, IsOrderOf}
use Rattle.task_sheet.proofs.IndexLaws.{without-part_of, listed-order, IsOrderOf-among}
use Rattle.task_sheet.proofs.IndexLaws.{IsOrderOf-rest}
use Rattle.assignment.specs.Places.{PlaceData}
use Rattle.assignment.specs.Placings.{tasks_of_places, IsPlacingOf}
use Rattle.assignment.specs.declared.placing.Placing.{Placing}
use Rattle.assignment.specs.declared.placing.Placing.TheVariants.{Best, Stuck}
use Rattle.explain.specs.Parts.{total_of}
use Rattle.explain.specs.Accounts.{AreInTime, AreResponseAccounts}
use Rattle.explain.specs.Needs.{IsNeedsAccount, AreNeedsOf}
use Rattle.explain.specs.Explanations.{Explains, NeedAddsUp, AddsUp}
use Rattle.explain.specs.declared.needs.Need.{Need}
use Rattle.explain.specs.declared.needs.Need.TheVariants.{Needs, MustBeAbove}
use Rattle.explain.specs.declared.explanation.Explanation.{Explanation}
use Rattle.explain.specs.declared.explanation.Explanation.TheVariants.{Responses, Conflict}
use Rattle.explain.specs.declared.accounts.Account.{Account}
use Rattle.explain.proofs.PartLaws.{parts-demand, parts-response}
use Rattle.explain.proofs.NeedLaws.{order-reverse, ends-step}
use Rattle.explain.proofs.AccountLaws.{best-in_time}
use Rattle.explain.proofs.ConflictLaws.{left-least}

responses-add_up : (U : List Task) (L : Indexes) (places : List PlaceData) (accounts : List Account)
    → IsOrderOf L (tasks_of_places places) → IsPart L (all_of U) → AreInTime U places
    → AreResponseAccounts U places accounts
    → AllByRecursion (λ (a : Account). a.time ≡ total_of a.parts) accounts
responses-add_up U L [] [] each part times are = tt
responses-add_up U L [] (a ∷ accounts) each part times are = absurd are
responses-add_up U L (p ∷ places) [] each part times are = absurd are
responses-add_up U L (p ∷ places) (a ∷ accounts) each part times are =
    let above = tasks_of_places places in
    let rest : IsOrderOf (without_index L p.task) above = IsOrderOf-rest L p.task above each in
    let part' = without-part_of (length U) L p.task part in
    let same : among above ≡ without_index L p.task =
    IsOrderOf-among (without_index L p.task) above rest in
    let order : IsOrderOf (among above) (reverse above) =
    subst (λ (X : Indexes). IsOrderOf X (reverse above)) (sym same)
    (order-reverse (without_index L p.task) above rest) in
    let within : IsPart (among above) (all_of U) =
    subst (λ (X : Indexes). IsPart X (all_of U)) (sym same) part' in (
      are.0.time ∙ sym (parts-response U p.task (among above) (reverse above) p.response a.parts
          times.0.response are.0.parts order within),
      responses-add_up U (without_index L p.task) places accounts rest part' times.1 are.1,
    )

pub need-adds_up : (U : List Task) (i : ℕ) (H : Indexes) (order : List ℕ) (a : Account)
    → IsNeedsAccount U i H order a → IsOrderOf H order → IsPart H (all_of U)
    → a.time ≡ total_of a.parts
need-adds_up U i H order a is each part =
    let step = ends-step (demand_of U i H) (limit_of (task_at U i)) is.before is.last is.chain
    is.full is.ends in
    let sum = parts-demand U i H order is.before a.parts is.parts each part in
    omega (arith, is.time, step.demanded, sum)

needs-add_up : (U : List Task) (C : Indexes) (tasks : List ℕ) (needs : List Need)
    → IsPart C (all_of U) → AreNeedsOf U C tasks needs → AllByRecursion NeedAddsUp needs
needs-add_up U C [] [] part are = tt
needs-add_up U C [] (n ∷ needs) part are = absurd are
needs-add_up U C (i ∷ tasks) [] part are = absurd are
needs-add_up U C (i ∷ tasks) (Needs a ∷ needs) part are =
    let H = without_index C i in
    let rest = without-part_of (length U) C i part in
    let listed = listed_below (length U) H in (
      need-adds_up U i H (reverse listed) a are.0.1 (order-reverse H listed
          (listed-order (length U) H rest)) rest,
      needs-add_up U C tasks needs part are.1,
    )
needs-add_up U C (i ∷ tasks) (MustBeAbove task other ∷ needs) part are =
    (tt, needs-add_up U C tasks needs part are.1)

pub explanation-adds_up : (U : List Task) (placing : Placing) (explanation : Explanation)
    → IsTaskSet U → IsPlacingOf U placing → Explains U placing explanation → AddsUp explanation
explanation-adds_up U (Best places) (Responses accounts) set is explains =
    responses-add_up U (all_of U) places.items accounts.items is.best.passing.each_once (λ k h. h)
    (best-in_time U places.items set is) explains
explanation-adds_up U (Best places) (Conflict left needs) set is explains = absurd explains
explanation-adds_up U (Stuck greatest) (Responses accounts) set is explains = absurd explains
explanation-adds_up U (Stuck greatest) (Conflict left needs) set is explains =
    let least = left-least U (indexes_of greatest) (indexes_of left) is.obstruction explains.0 in
    needs-add_up U (indexes_of left) (listed_below (length U) (indexes_of left)) needs.items
    least.0.obstruction.within explains.1
