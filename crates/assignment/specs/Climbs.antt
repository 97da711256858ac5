-- The climb from the lowest level up (Audsley 1991).
use Rattle.std.specs.Prelude.{◌≡◌, ℕ, Bool, true, false, List, [], ◌∷◌, ◌++◌, IsTrue}
use Rattle.std.specs.Ordering.{nat_cmp}
use Rattle.std.specs.FinSet.{FinSet, contains, remove}
pub use Rattle.task_sheet.specs.SetCodes.{set_codes}
use Rattle.task_sheet.specs.Sheet.{Task}
use Rattle.task_sheet.specs.Indexes.{indexes_of}
use Rattle.task_sheet.specs.Orders.{all_of}
use Rattle.task_sheet.specs.Levels.{IsChosen, NoneStands, left_after, AllChosen}
use Rattle.task_sheet.specs.Verdicts.{LevelData, order_of, IsLevel, AllLevels}
use Rattle.assignment.specs.Levels.{LevelState}

-- a set, its levels that are closed, from the lowest up, its tasks that are not yet placed, and
-- whether none of these may stand below the others
pub record ClimbState : Type 0 where
  pub set : List Task
  pub levels : List LevelData
  pub left : FinSet nat_cmp
  pub stuck : Bool

-- the level is the next one of the climb, in a set of the same content
pub record IsNext (c : ClimbState) (l : LevelState) : Type 0 where
  pub same : l.set ≡ c.set
  pub rest : l.left ≡ c.left
  pub goes_on : c.stuck ≡ false

-- one level more: its task is placed
pub record IsPlaced (old new : ClimbState) : Type 0 where
  pub level : LevelData
  pub chosen : IsChosen old.set (indexes_of old.left) level.task
  pub right : IsLevel old.set (indexes_of old.left) level
  pub after : new ≡ (let c : ClimbState = record {
    set = old.set;
    levels = old.levels ++ level ∷ [];
    left = remove old.left level.task;
    stuck = false;
  } in c)

-- no task may stand at the level
pub record IsEnded (old new : ClimbState) : Type 0 where
  pub none : NoneStands old.set (indexes_of old.left)
  pub after : new ≡ (let c : ClimbState = record {
    set = old.set;
    levels = old.levels;
    left = old.left;
    stuck = true;
  } in c)

-- tasks are left, and some of them may yet stand below the others
pub record IsUnfinished (c : ClimbState) : Type 0 where
  pub some : (k : ℕ) × IsTrue (contains c.left k)
  pub goes_on : c.stuck ≡ false

-- the levels are closed from the lowest up, and these tasks are left
pub record IsClimbing
    (U : List Task)
    (left : FinSet nat_cmp)
    (levels : List LevelData) : Type 0 where
  pub chosen : AllChosen U (all_of U) (order_of levels)
  pub each : AllLevels U (all_of U) levels
  pub rest : indexes_of left ≡ left_after (all_of U) (order_of levels)
