-- Places from the lowest up: they lead to the best order, or what is left is the greatest obstruction.
use Rattle.std.proofs.Common.{◌≡◌, ℕ, false, List, [], ◌∷◌, ◌++◌, length, Option, None, Some}
use Rattle.std.proofs.Common.{IfSome, sym, ◌∙◌, ap, subst}
use Rattle.std.specs.Ordering.{nat_cmp}
use Rattle.std.specs.FinSet as members
use Rattle.std.proofs.lemmas.List.{map_push}
use Rattle.task_sheet.proofs.Common.{Task, AllTasks, all_below, Indexes, indexes_of, without_index}
use Rattle.task_sheet.proofs.Common.{below, IsPart, IsResponseOf, Passes, all_of, must_outrank_any, Stands}
use Rattle.task_sheet.proofs.Common.{IsChosen, NoneStands, IsGreatestObstruction, left_after}
use Rattle.task_sheet.proofs.Common.{AllChosen}
use Rattle.task_sheet.proofs.MembersIndexes.{indexes_of-empty, indexes_of-all_below}
use Rattle.task_sheet.proofs.MembersIndexes.{indexes_of-remove, member_of-len}
use Rattle.task_sheet.proofs.LevelLaws.{left_after-part, left_after-push, AllChosen-push}
use Rattle.task_sheet.proofs.ObstructionLaws.{AllChosen-obstruction}
use Rattle.assignment.specs.Places.{PlaceData}
use Rattle.assignment.specs.Placings.{tasks_of_places, AllRespond}
use Rattle.assignment.proofs.FeasibilityLaws.{some_left}

-- these are placed, each with its response, and L is left
pub record IsPlaced (U : List Task) (L : Indexes) (places : List PlaceData) : Type 0 where
  pub each : AllRespond U (all_of U) places
  pub rest : L ≡ left_after (all_of U) (tasks_of_places places)

pub IsPlaced-part : (U : List Task) (L : Indexes) (places : List PlaceData) → IsPlaced U L places
    → IsPart L (all_of U)
IsPlaced-part U L places so = subst (λ X. IsPart X (all_of U)) (sym so.rest)
    (left_after-part (all_of U) (tasks_of_places places))

AllRespond-push : (U : List Task) (L : Indexes) (places : List PlaceData) (p : PlaceData)
    → AllRespond U L places
    → IsResponseOf U p.task (without_index (left_after L (tasks_of_places places)) p.task)
    p.response → AllRespond U L (places ++ p ∷ [])
AllRespond-push U L [] p each next = (next, tt)
AllRespond-push U L (q ∷ places) p each next =
    (each.0, AllRespond-push U (without_index L q.task) places p each.1 next)

pub IsPlaced-start : (U : List Task) (left : members.FinSet nat_cmp) (n : ℕ)
    (places : List PlaceData) → left ≡ all_below n → n ≡ length U → places ≡ []
    → IsPlaced U (indexes_of left) places
IsPlaced-start U left n places all count none =
    let start : IsPlaced U (indexes_of left) [] = record {
      each = tt;
      rest = ap indexes_of all ∙ indexes_of-all_below n ∙ ap (λ m. below m) count;
    } in
    subst (λ ps. IsPlaced U (indexes_of left) ps) (sym none) start

pub tasks-push : (places places' : List PlaceData) (p : PlaceData) → places' ≡ places ++ p ∷ []
    → tasks_of_places places' ≡ tasks_of_places places ++ p.task ∷ []
tasks-push places places' p pushed =
    ap tasks_of_places pushed ∙ map_push (λ (q : PlaceData). q.task) places p

pub IsPlaced-push : (U : List Task) (left left' : members.FinSet nat_cmp)
    (places places' : List PlaceData) (p : PlaceData) → IsPlaced U (indexes_of left) places
    → IsResponseOf U p.task (without_index (indexes_of left) p.task) p.response
    → left' ≡ members.remove left p.task → places' ≡ places ++ p ∷ []
    → IsPlaced U (indexes_of left') places'
IsPlaced-push U left left' places places' p so is removed pushed = record {
  each = subst (λ ps. AllRespond U (all_of U) ps) (sym pushed)
      (AllRespond-push U (all_of U) places p so.each
      (subst (λ X. IsResponseOf U p.task (without_index X p.task) p.response) so.rest is));
  rest = ap indexes_of removed ∙ indexes_of-remove left p.task
      ∙ ap (λ X. without_index X p.task) so.rest
      ∙ sym (left_after-push (all_of U) (tasks_of_places places) p.task)
      ∙ ap (λ ns. left_after (all_of U) ns) (sym (tasks-push places places' p pushed));
}

-- all are placed
pub IsPlaced-none : (U : List Task) (left : members.FinSet nat_cmp) (places : List PlaceData)
    → IsPlaced U (indexes_of left) places → left ≡ members.empty → (k : ℕ)
    → left_after (all_of U) (tasks_of_places places) k ≡ false
IsPlaced-none U left places so none k =
    ap (λ (X : Indexes). X k) (sym so.rest ∙ ap indexes_of none ∙ indexes_of-empty)

-- ---- the chosen
-- each was the first that may stand below the others
pub record IsChosenTo (U : List Task) (left : members.FinSet nat_cmp) (places : List PlaceData)
    : Type 0 where
  pub chosen : AllChosen U (all_of U) (tasks_of_places places)
  pub placed : IsPlaced U (indexes_of left) places

pub IsChosenTo-push : (U : List Task) (left left' : members.FinSet nat_cmp)
    (places places' : List PlaceData) (p : PlaceData) → IsChosenTo U left places
    → IsChosen U (indexes_of left) p.task → IsResponseOf U p.task
    (without_index (indexes_of left) p.task) p.response → left' ≡ members.remove left p.task
    → places' ≡ places ++ p ∷ [] → IsChosenTo U left' places'
IsChosenTo-push U left left' places places' p so chosen is removed pushed = record {
  chosen = subst (λ ns. AllChosen U (all_of U) ns) (sym (tasks-push places places' p pushed))
      (AllChosen-push U (all_of U) (tasks_of_places places) p.task so.chosen
      (subst (λ X. IsChosen U X p.task) so.placed.rest chosen));
  placed = IsPlaced-push U left left' places places' p so.placed is removed pushed;
}

pub IsChosenTo-stuck : (U : List Task) (left : members.FinSet nat_cmp) (places : List PlaceData)
    → AllTasks U → IsChosenTo U left places → ¬ (left ≡ members.empty)
    → NoneStands U (indexes_of left) → IsGreatestObstruction U (indexes_of left)
IsChosenTo-stuck U left places valid so some stuck =
    let part = IsPlaced-part U (indexes_of left) places so.placed in
    let member = member_of-len left (length U) part (some_left left some) in
    let rest = so.placed.rest in
    subst (λ X. IsGreatestObstruction U X) (sym rest)
    (AllChosen-obstruction U valid (tasks_of_places places) so.chosen member.0
    (ap (λ (X : Indexes). X member.0) (sym rest) ∙ member.2)
    (subst (λ X. NoneStands U X) rest stuck))

-- ---- the tasks that are left are asked by rank
pub stands_too : (U : List Task) (i : ℕ) (H : Indexes) (o : Option ℕ) → must_outrank_any U i H ≡ false
    → IfSome o (λ _. Passes U i H) → IfSome o (λ _. Stands U i H)
stands_too U i H None free passes = tt
stands_too U i H (Some r) free passes = (passes, free)
