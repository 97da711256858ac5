-- A climb with one level more, and its end.
use Rattle.std.proofs.Common.{◌≡◌, ℕ, inl, inr, true, false, List, [], ◌∷◌, ◌++◌, length, Option}
use Rattle.std.proofs.Common.{None, Some, is_some, MatchOption, Vec, Global, refl, sym, ◌∙◌, ap}
use Rattle.std.proofs.Common.{subst}
use Rattle.std.specs.Ordering.{nat_cmp}
use Rattle.std.specs.FinSet as members
use Rattle.std.proofs.lemmas.Bool.{cases_Bool, both_ways}
use Rattle.std.proofs.lemmas.List.{map_push}
use Rattle.task_sheet.proofs.Common.{Task, all_below, indexes_of, below, IsPart, without_index}
use Rattle.task_sheet.proofs.Common.{all_of, IsChosen, left_after, AllChosen, FailureData}
use Rattle.task_sheet.proofs.Common.{LevelData, order_of, AllLevels, IsBestOrder, IsStuck}
use Rattle.task_sheet.specs.Verdicts.{IsLevel}
use Rattle.task_sheet.proofs.TaskLaws.{AllTasks-from_set}
use Rattle.task_sheet.proofs.MembersIndexes.{indexes_of-all_below, indexes_of-remove}
use Rattle.task_sheet.proofs.LevelLaws.{left_after-part, left_after-push, AllChosen-push}
use Rattle.task_sheet.proofs.VerdictLaws.{AllLevels-push, IsVerdictOf-admitted}
use Rattle.task_sheet.proofs.VerdictLaws.{IsVerdictOf-infeasible}
use Rattle.assignment.specs.Levels.{IsObstructed}
use Rattle.assignment.specs.Climbs.{ClimbState, IsClimbing, IsUnfinished}
use Rattle.assignment.specs.ClimbFields.{IsClimbKept}
use Rattle.assignment.specs.declared.climb.Climb.TheInside.{Inside}

pub left_part : (U : List Task) (left : members.FinSet nat_cmp) (levels : List LevelData)
    → IsClimbing U left levels → IsPart (indexes_of left) (all_of U)
left_part U left levels so =
    subst (λ X. IsPart X (all_of U)) (sym so.rest) (left_after-part (all_of U) (order_of levels))

pub IsClimbing-push : (U : List Task) (left left' : members.FinSet nat_cmp)
    (levels levels' : List LevelData) (level : LevelData) → IsClimbing U left levels
    → IsChosen U (indexes_of left) level.task → IsLevel U (indexes_of left) level → left'
    ≡ members.remove left level.task → levels' ≡ levels ++ level ∷ [] → IsClimbing U left' levels'
IsClimbing-push U left left' levels levels' level so chosen is removed pushed =
    let order : order_of levels' ≡ order_of levels ++ level.task ∷ [] = ap order_of pushed
    ∙ map_push (λ (l : LevelData). l.task) levels level in
    record {
      chosen = subst (λ ns. AllChosen U (all_of U) ns) (sym order)
          (AllChosen-push U (all_of U) (order_of levels) level.task so.chosen
          (subst (λ X. IsChosen U X level.task) so.rest chosen));
      each = subst (λ ls. AllLevels U (all_of U) ls) (sym pushed) (AllLevels-push U (all_of U)
          levels level so.each (subst (λ X. IsLevel U X level) so.rest is));
      rest = ap indexes_of removed ∙ indexes_of-remove left level.task
          ∙ ap (λ X. without_index X level.task) so.rest
          ∙ sym (left_after-push (all_of U) (order_of levels) level.task)
          ∙ ap (λ ns. left_after (all_of U) ns) (sym order);
    }

pub not_unfinished : (climb : ClimbState) → climb.stuck ≡ false → ¬ IsUnfinished climb → (k : ℕ)
    → members.contains climb.left k ≡ false
not_unfinished climb goes_on done k = elim (cases_Bool (members.contains climb.left k)) [
  | inl member ↦ absurd (done (record { some = (k, member); goes_on = goes_on }))
  | inr out ↦ out
]

pub IsClimbing-admitted : (U : List Task) (left : members.FinSet nat_cmp) (levels : List LevelData)
    → IsClimbing U left levels → ((k : ℕ) → members.contains left k ≡ false) → IsBestOrder U levels
IsClimbing-admitted U left levels so none =
    IsVerdictOf-admitted U levels so.chosen so.each (λ k. ap (λ X. X k) (sym so.rest) ∙ none k)

-- what a climb keeps of an obstruction is stuck
pub stuck_kept : (a : Inside) (members : Vec FailureData Global) → IsClimbKept a
    → a.members ≡ Some members → IsStuck a.set.value members.items
stuck_kept a members kept is =
    let so = kept.climbing in
    let o = subst (λ X. IsObstructed a.set.value X members.items) so.rest
    (subst (λ o. MatchOption o (Unit {0}) (λ fails. IsObstructed a.set.value
    (indexes_of a.left) fails.items)) is kept.obstructed) in
    IsVerdictOf-infeasible a.set.value (AllTasks-from_set a.set.value kept.valid)
    (order_of a.levels.items) members.items o.obstruction.some.0 so.chosen o.obstruction.some.1
    o.ranked o.each

pub none_known : {X : Type 0} (P : X → Type 0) (o : Option X) → is_some o ≡ false
    → MatchOption o (Unit {0}) P
none_known P None none = tt
none_known P (Some x) none = absurd (both_ways true none refl)

pub IsClimbing_start : (U : List Task) (left : members.FinSet nat_cmp) (n : ℕ)
    (levels : List LevelData) → left ≡ all_below n → n ≡ length U → levels ≡ []
    → IsClimbing U left levels
IsClimbing_start U left n levels all count none =
    let start : IsClimbing U left [] = record {
      chosen = tt;
      each = tt;
      rest = ap indexes_of all
          ∙ indexes_of-all_below n ∙ ap (λ m. below m) count;
    } in
    subst (λ ls. IsClimbing U left ls) (sym none) start
