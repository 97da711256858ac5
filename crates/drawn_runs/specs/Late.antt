-- Rows of a run in a set's best order, and that no job of theirs is late.
use Rattle.std.specs.Prelude.{◌≡◌, ℕ, ◌<◌, true, false, Ok, List, length, All}
use Rattle.task_sheet.specs.Sheet.{Task, same_bytes, task_at}
use Rattle.task_sheet.specs.TaskSet.{IsTaskSet}
use Rattle.assignment.specs.Places.{PlaceData}
use Rattle.assignment.specs.Placings.{IsBestPlacing, tasks_of_places}
use Rattle.ceiling_kernel.specs.Runs.{Runs}
use Rattle.ceiling_kernel.specs.Tick.{node_in}
use Rattle.ceiling_kernel.specs.declared.trace.JobRecord.{JobRecord}
use Rattle.ceiling_kernel.specs.declared.trace.Release.{Release}
use Rattle.ceiling_kernel.specs.declared.trace.Trace.{Trace}
use Rattle.frames.specs.declared.rows.TaskRow.{TaskRow}
use Rattle.frames.specs.Frame.{Frame}
use Rattle.drawn_jobs.specs.Misses.{is_late}

-- the row is of a task of the set, with whatever bound
abbrev pub IsRowOf : List Task → TaskRow → Type 0
IsRowOf U row = (i : ℕ) × (i < length U) × (row.sheet ≡ task_at U i)

-- a run of an admitted set in its best order, and rows of the set's tasks
pub record IsBestRun (U : List Task) (places : List PlaceData) (rs : List Release) (until : ℕ) (trace : Trace) (rows : List TaskRow) : Type 0 where
  pub set : IsTaskSet U
  pub best : IsBestPlacing U places
  pub runs : Runs (node_in U (tasks_of_places places)) rs until (Ok trace)
  pub tasks : All (IsRowOf U) rows

-- of some jobs none that is of the row's task is late
abbrev pub NoneIsLate : Frame → List JobRecord → TaskRow → Type 0
NoneIsLate f jobs row =
    All (λ job. same_bytes job.name row.sheet.name ≡ true → is_late f row job ≡ false) jobs
