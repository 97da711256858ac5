-- The parts of a set are the set.
use Rattle.std.proofs.Common.{ℕ, List, [], ◌∷◌, ◌++◌, Bool, not, refl, subst, sym}
use Rattle.std.specs.List.{filter}
use Rattle.std.specs.List.Sorted.{IsPermutation}
use Rattle.std.proofs.lemmas.List.{append-nil}
use Rattle.std.proofs.lemmas.List.Sorted.{IsPermutation-append_right, IsPermutation-filter_both}
use Rattle.std.proofs.lemmas.List.Sorted.{IsPermutation-refl, IsPermutation-trans}
use Rattle.task_sheet.specs.Sheet.{Task}
use Rattle.owners.specs.Owners.{has_task}
use Rattle.owners.specs.Parts.{all_of, parts_by}
use Rattle.task_lines.specs.declared.owner.Owner.{Owner}

pub whole : (owners : List Owner) (teams : List (List ℕ)) (U : List Task)
    → IsPermutation U (all_of (parts_by owners teams U))
whole owners [] [] = IsPermutation-refl []
whole owners [] (t ∷ U) = subst (λ (l : List Task). IsPermutation (t ∷ U) l)
    (sym (append-nil (t ∷ U))) (IsPermutation-refl (t ∷ U))
whole owners (team ∷ teams) U =
    let own : Task → Bool = has_task owners team in
    let other : Task → Bool = λ t. not (has_task owners team t) in
    let mine : List Task = filter own U in
    let left : List Task = filter other U in
    let rest : List Task = all_of (parts_by owners teams left) in
    IsPermutation-trans U (mine ++ left) (mine ++ rest)
    (IsPermutation-filter_both own other (λ t. refl) U)
    (IsPermutation-append_right mine left rest (whole owners teams left))
