-- The rows of a picture of an order.
use Rattle.std.specs.Prelude.{ℕ, min, Option, Some, None, List, [], ◌∷◌, ◌++◌}
use Rattle.task_sheet.specs.Demand.{interrupts_within, past_jitter}
use Rattle.task_sheet.specs.Sheet.{Task, task_at}
use Rattle.ceiling_kernel.specs.declared.trace.Release.{Release}
use Rattle.run_lines.specs.declared.bounds.TaskBound.{TaskBound}
use Rattle.frames.specs.declared.rows.TaskRow.{TaskRow}
use Rattle.frames.specs.declared.tones.Toned.{Toned}
use Rattle.frames.specs.Tones.{fitted_tone, tone_named}

-- what rows have beside tasks and bounds: the number that a thread has by its name, the tones of names, which tasks have
-- rows that are shown, if that is said, and a list's releases
pub record Looks : Type 0 where
  pub number : List ℕ → Option ℕ
  pub tones : List Toned
  pub names : List (List ℕ)
  pub releases : List Release

-- how much of a task's bound is what timers and interrupts take in it
abbrev pub unrun_of : List Task → Task → (bound : Option ℕ) → ℕ
unrun_of U t None = 0
unrun_of U t (Some bound) = min (interrupts_within U (past_jitter t bound)) bound

-- a name, and its tone among those
abbrev pub toned_in : List Toned → List ℕ → Toned
toned_in tones name = record { name = name; tone = tone_named tones name }

-- the row of a level, below some rows: its task, with the task's bound, if it has one
abbrev pub drawn_row : List Task → Looks → (above : List TaskRow) → TaskBound → TaskRow
drawn_row U looks above b = record {
  sheet = task_at U b.task;
  bound = b.bound;
  number = looks.number (task_at U b.task).name;
  tone = fitted_tone looks.names looks.releases above (toned_in looks.tones (task_at U b.task).name);
  unrun = unrun_of U (task_at U b.task) b.bound;
}

-- some rows, and the one of the level below them
abbrev pub row_more : List Task → Looks → List TaskRow → TaskBound → List TaskRow
row_more U looks rows b = rows ++ drawn_row U looks rows b ∷ []

-- the rows of an order, the highest level first
abbrev pub rows_of : List Task → Looks → List TaskBound → List TaskRow
rows_of U looks [] = []
rows_of U looks (b ∷ bounds) = row_more U looks (rows_of U looks bounds) b
