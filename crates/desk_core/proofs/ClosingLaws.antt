-- What a closed level leads to.
use Rattle.std.proofs.Common.{◌≡◌, ◌+◌, ◌-◌, ◌⊎◌, inl, inr, true, List, [], ◌∷◌, ◌++◌, length}
use Rattle.std.proofs.Common.{get_or, None, refl, sym, ◌∙◌, ap, arith, length-append}
use Rattle.std.proofs.lemmas.Bool.{both_ways}
use Rattle.std.proofs.lemmas.List.{get_or_push}
use Rattle.task_sheet.proofs.Common.{LevelData}
use Rattle.assignment.specs.Questions.{QuestionData}
use Rattle.assignment.specs.Levels.{LevelState, IsDecided, with_finding}
use Rattle.assignment.specs.Climbs.{ClimbState, IsPlaced, IsEnded, IsUnfinished}
use Rattle.desk_core.specs.declared.told.Told.{Told}
use Rattle.desk_core.specs.declared.told.Told.TheVariants.{LevelDone, Tested}
use Rattle.desk_core.specs.Closing.{IsNew, IsClosing, IsTakenAt}

-- the climb goes on, so the level was one that placed its task
pub closed-placed : (old new : ClimbState) → IsUnfinished new → IsPlaced old new ⊎ IsEnded old new
    → IsPlaced old new
closed-placed old new going (inl placed) = placed
closed-placed old new going (inr ended) = absurd (both_ways true
    (sym (ap (λ (c : ClimbState). c.stuck) ended.after) ∙ going.goes_on) refl)

pub last-placed : (old new : ClimbState) (placed : IsPlaced old new) (levels : List LevelData)
    (read : LevelData) → levels ≡ new.levels → read ≡ get_or levels (length levels - 1) read
    → read ≡ placed.level
last-placed old new placed levels read same is =
    let pushed : levels ≡ old.levels ++ placed.level ∷ [] = same
    ∙ ap (λ (c : ClimbState). c.levels) placed.after in
    let count : length levels ≡ length old.levels + 1 = ap length pushed
    ∙ length-append old.levels (placed.level ∷ []) in
    let place : length old.levels ≡ length levels - 1 = omega arith in
    is ∙ ap (λ xs. get_or xs (length levels - 1) read) pushed
    ∙ get_or_push old.levels placed.level read (length levels - 1) place

pub closing-taken : (c : ClimbState) (l : LevelState) (q : QuestionData) (c' : ClimbState)
    (told : Told) → IsNew l q → IsDecided (with_finding l q.task) → IsClosing c c' told
    → IsTakenAt c l q c' None told
closing-taken c l q c' (LevelDone level task response) new decided closing =
    (new, decided, refl, closing)
closing-taken c l q c' Tested new decided closing = (new, decided, refl, closing)
closing-taken c l q c' told new decided closing = absurd closing
