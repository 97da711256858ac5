-- The tasks of a set that are left at a level.
use Rattle.std.specs.Prelude.{List}
use Rattle.std.specs.Ordering.{nat_cmp}
use Rattle.std.specs.FinSet.{FinSet}
use Rattle.task_sheet.specs.Sheet.{Task}
pub use Rattle.task_sheet.specs.SetCodes.{set_codes}

-- a set, and the tasks of it that are left: the candidates of a level
pub record CandidatesData : Type 0 where
  pub set : List Task
  pub left : FinSet nat_cmp
