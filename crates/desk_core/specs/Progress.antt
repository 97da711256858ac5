-- How far a climb has come by findings.
use Rattle.std.specs.Prelude.{◌≡◌, ℕ, ◌<◌, ◌≤◌, false, List, [], ◌∷◌, length, Option, None, Some}
use Rattle.std.specs.Prelude.{IsTrue, MatchBool}
use Rattle.std.specs.FinSet.{contains, insert, len}
use Rattle.task_sheet.specs.Sheet.{Task}
use Rattle.task_sheet.specs.Indexes.{indexes_of, IsPart}
use Rattle.task_sheet.specs.Orders.{all_of}
use Rattle.task_sheet.specs.Levels.{NoneStands}
use Rattle.assignment.specs.Levels.{LevelState}
use Rattle.assignment.specs.Climbs.{ClimbState}
use Rattle.task_sheet.specs.Choices.{level_at}
use Rattle.desk_core.specs.Findings.{Asked, level_of, Decides}

-- the present level, which is not kept before its first finding comes
abbrev pub present_of : ClimbState → Option LevelState → LevelState
present_of c None = record { set = c.set; left = c.left; missing = c.left }
present_of c (Some l) = l

-- each finding asks of so many candidates or more
abbrev pub AreWide : ℕ → List Asked → Type 0
AreWide n [] = Unit {0}
AreWide n (a ∷ found) = (n ≤ len (insert a.above a.task)) × AreWide n found

-- the levels below the present one are closed, and the findings have not decided that one, unless the climb has ended
pub record IsProgress (U : List Task) (c : ClimbState) (found : List Asked) : Type 0 where
  pub same : c.set ≡ U
  pub part : IsPart (indexes_of c.left) (all_of U)
  pub left : c.left ≡ level_at U (length c.levels)
  pub before : (j : ℕ) → j < length c.levels → Decides U found j
  pub wide : AreWide (len c.left) found
  pub here :
      MatchBool c.stuck
      (NoneStands U (indexes_of c.left) × Decides U found (length c.levels))
      ((i : ℕ) → IsTrue (contains c.left i) → ¬ Decides U found (length c.levels))

-- the climb is as far as the findings are, and the level that is kept, if any, is the present one
pub record IsHeld (U : List Task) (c : ClimbState) (level : Option LevelState)
    (found : List Asked) : Type 0 where
  pub progress : IsProgress U c found
  pub kept : c.stuck ≡ false → present_of c level ≡ level_of U found (length c.levels)
