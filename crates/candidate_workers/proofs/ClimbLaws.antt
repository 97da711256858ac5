-- Places from the lowest up, and the questions of their levels.
use Rattle.std.proofs.Common.{◌≡◌, ◌⊎◌, inl, inr, List, [], ◌∷◌, ◌++◌, length, Some, ◌∙◌}
use Rattle.std.proofs.Common.{refl}
use Rattle.std.specs.FinSet as members
use Rattle.task_sheet.proofs.Common.{Task, AllTasks, all_below, Indexes, indexes_of, without_index}
use Rattle.task_sheet.proofs.Common.{IsResponseOf, all_of, IsChosen, NoneStands}
use Rattle.task_sheet.proofs.Common.{IsGreatestObstruction, left_after}
use Rattle.task_sheet.proofs.LevelLaws.{AllChosen-best}
use Rattle.assignment.specs.Questions.{QuestionData}
use Rattle.assignment.specs.Places.{PlaceData}
use Rattle.assignment.specs.Placings.{tasks_of_places, IsBestPlacing}
use Rattle.assignment.proofs.PlacingLaws.{IsPlaced-start, IsPlaced-none, IsChosenTo}
use Rattle.assignment.proofs.PlacingLaws.{IsChosenTo-push, IsChosenTo-stuck}
use Rattle.candidate_workers.specs.Asked.{IsOfLevel, IsOfPlaces}
use Rattle.candidate_workers.specs.Candidates.{CandidatesData}

-- the questions of one more level
IsOfPlaces-push : (U : List Task) (L : Indexes) (places : List PlaceData) (p : PlaceData)
    (q : QuestionData) → IsOfPlaces U L (places ++ p ∷ []) q
    → IsOfPlaces U L places q ⊎ IsOfLevel U (left_after L (tasks_of_places places)) (Some p) q
IsOfPlaces-push U L [] p q (inl here) = inr here
IsOfPlaces-push U L [] p q (inr later) = absurd later
IsOfPlaces-push U L (x ∷ places) p q (inl here) = inl (inl here)
IsOfPlaces-push U L (x ∷ places) p q (inr later) =
    elim (IsOfPlaces-push U (without_index L x.task) places p q later) [
      | inl before ↦ inl (inr before)
      | inr here ↦ inr here
    ]

module _ (shut : QuestionData → Type 0) (U : List Task) where
  -- each place was chosen, and none of the questions on the way up is one of those shut out
  pub record IsClimbing (level : CandidatesData) (places : List PlaceData) : Type 0 where
    pub same : level.set ≡ U
    pub chosen : IsChosenTo U level.left places
    pub free : (q : QuestionData) → IsOfPlaces U (all_of U) places q → shut q → ⊥

  pub IsClimbing-start : (level : CandidatesData) (places : List PlaceData) → level.set ≡ U
      → level.left ≡ all_below (length U) → places ≡ [] → IsClimbing level places
  IsClimbing-start level places same all none = record {
    same = same;
    chosen = record {
      chosen = rw none tt;
      placed = IsPlaced-start U level.left (length U) places all refl none;
    };
    free = λ q asked bad. rw none at asked;
  }

  pub IsClimbing-push : (level level' : CandidatesData) (places places' : List PlaceData)
      (p : PlaceData) → IsClimbing level places
      → IsChosen level.set (indexes_of level.left) p.task
      → IsResponseOf level.set p.task (without_index (indexes_of level.left) p.task) p.response
      → ((q : QuestionData) → IsOfLevel level.set (indexes_of level.left) (Some p) q → shut q → ⊥)
      → level'.set ≡ level.set → level'.left ≡ members.remove level.left p.task
      → places' ≡ places ++ p ∷ [] → IsClimbing level' places'
  IsClimbing-push level level' places places' p so chosen is free set removed pushed =
      let here : (q : QuestionData) → IsOfLevel U (left_after (all_of U) (tasks_of_places places))
      (Some p) q → shut q → ⊥ =
      λ q asked. free q (rw (so.same, so.chosen.placed.rest) asked) in
      record {
        same = set ∙ so.same;
        chosen = IsChosenTo-push U level.left level'.left places places' p so.chosen
            (rw so.same at chosen) (rw so.same at is) removed pushed;
        free = λ q asked bad.
            elim (IsOfPlaces-push U (all_of U) places p q (rw pushed at asked)) [
              | inl before ↦ so.free q before bad
              | inr now ↦ here q now bad
            ];
      }

  pub IsClimbing-stuck : (level : CandidatesData) (places : List PlaceData)
      → AllTasks U → IsClimbing level places → ¬ (level.left ≡ members.empty)
      → NoneStands level.set (indexes_of level.left)
      → IsGreatestObstruction U (indexes_of level.left)
  IsClimbing-stuck level places valid so some none =
      IsChosenTo-stuck U level.left places valid so.chosen some (rw so.same at none)

  pub IsClimbing-best : (level : CandidatesData) (places : List PlaceData)
      → IsClimbing level places → level.left ≡ members.empty → IsBestPlacing U places
  IsClimbing-best level places so none = record {
    best = AllChosen-best U (tasks_of_places places) so.chosen.chosen
        (IsPlaced-none U level.left places so.chosen.placed none);
    each = so.chosen.placed.each;
  }
