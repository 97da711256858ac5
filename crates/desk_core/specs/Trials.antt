-- What callers see of a trial.
use Rattle.std.specs.Prelude.{ℕ, List, length, map}
use Rattle.std.specs.Ordering.{nat_cmp}
use Rattle.std.specs.FinSet.{FinSet}
pub use Rattle.task_sheet.specs.SetCodes.{set_codes}
use Rattle.task_sheet.specs.Sheet.{Task, task_at}
use Rattle.task_sheet.specs.Indexes.{indexes_of, listed_below}
use Rattle.desk_core.specs.Findings.{Asked}

-- a set, and the findings that were taken, in their order
pub record TrialData : Type 0 where
  pub set : List Task
  pub found : List Asked

-- the names of tasks of a set, by rank
abbrev pub names_of : List Task → FinSet nat_cmp → List (List ℕ)
names_of U tasks = map (λ i. (task_at U i).name) (listed_below (length U) (indexes_of tasks))
