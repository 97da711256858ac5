-- What an assignment and an obstruction keep.
use Rattle.std.specs.Prelude.{List}
use Rattle.task_sheet.specs.Sheet.{Task}
use Rattle.task_sheet.specs.Verdicts.{LevelData, FailureData}

-- a set and its best order, level by level
pub record AssignmentData : Type 0 where
  pub set : List Task
  pub levels : List LevelData

-- a set and its greatest obstruction, by rank
pub record ObstructionData : Type 0 where
  pub set : List Task
  pub members : List FailureData
