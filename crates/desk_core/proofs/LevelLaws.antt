-- The levels of a set are what is left of it, one chosen task after the other.
use Rattle.std.proofs.Common.{◌≡◌, ◌∙◌, ℕ, suc, ◌+◌, List, [], ◌∷◌, length, refl, sym, ap, subst}
use Rattle.std.proofs.Common.{arith}
use Rattle.task_sheet.proofs.Common.{Task, Indexes, indexes_of, without_index, all_of, IsChosen}
use Rattle.task_sheet.proofs.Common.{AllChosen, left_after, level_at}
use Rattle.task_sheet.proofs.MembersIndexes.{indexes_of-all_below, indexes_of-remove}
use Rattle.task_sheet.proofs.ChosenLaws.{level_at-next, level_at-part}

left_from : (U : List Task) (k : ℕ) (L : Indexes) (placed : List ℕ) → indexes_of (level_at U k) ≡ L
    → AllChosen U L placed → indexes_of (level_at U (length placed + k)) ≡ left_after L placed
left_from U k L [] here chosen =
    ap (λ n. indexes_of (level_at U n)) (let same : 0 + k ≡ k = omega arith in same) ∙ here
left_from U k L (i ∷ placed) here chosen =
    let first : IsChosen U (indexes_of (level_at U k)) i =
    subst (λ X. IsChosen U X i) (sym here) chosen.0 in
    let next : indexes_of (level_at U (suc k)) ≡ without_index L i =
    ap (λ m. indexes_of m) (level_at-next U k i (level_at U k) refl (level_at-part U k) first)
    ∙ indexes_of-remove (level_at U k) i ∙ ap (λ X. without_index X i) here in
    let number : suc (length placed) + k ≡ length placed + suc k = omega arith in
    ap (λ n. indexes_of (level_at U n)) number
    ∙ left_from U (suc k) (without_index L i) placed next chosen.1

pub level_at-left : (U : List Task) (placed : List ℕ) → AllChosen U (all_of U) placed
    → indexes_of (level_at U (length placed)) ≡ left_after (all_of U) placed
unfolding level_at
level_at-left U placed chosen =
    let number : length placed ≡ length placed + 0 = omega arith in
    ap (λ n. indexes_of (level_at U n)) number
    ∙ left_from U 0 (all_of U) placed (indexes_of-all_below (length U)) chosen
