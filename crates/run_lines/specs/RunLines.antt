-- The lines that say what each task came to in a run.
use Rattle.std.specs.Prelude.{ℕ, Option, Some, None, List, [], ◌∷◌, ◌++◌, ◌==◌, length, codes, if◌then◌else◌}
use Rattle.std.specs.Fmt.{decimal}
use Rattle.task_sheet.specs.Sheet.{Task}
use Rattle.task_sheet.specs.Demand.{greatest_of}
use Rattle.lines.specs.Known.{some_words}
use Rattle.lines.specs.Naming.{name_at}
use Rattle.ceiling_kernel.specs.declared.trace.JobRecord.{JobRecord}
use Rattle.run_lines.specs.Reached.{done_of, response_of}
use Rattle.run_lines.specs.declared.bounds.TaskBound.{TaskBound}

-- the greatest response of so many jobs that are done, or `-` of none
abbrev pub greatest_words : (done greatest : ℕ) → List ℕ
greatest_words done greatest = if done == 0 then codes "-" else decimal greatest

-- the task with a name and a bound: how many of its jobs are done, the greatest response among them, and its bound
abbrev pub task_line : List ℕ → Option ℕ → List JobRecord → List ℕ
task_line name bound jobs =
    codes "task " ++ name ++ codes " " ++ decimal (length (done_of name jobs)) ++ codes " "
    ++ greatest_words (length (done_of name jobs)) (greatest_of response_of (done_of name jobs))
    ++ codes " " ++ some_words bound ++ codes "\n"

-- a line for each task
abbrev pub task_lines : List Task → List JobRecord → List TaskBound → List ℕ
task_lines U jobs [] = []
task_lines U jobs (b ∷ bounds) =
    task_line (name_at U b.task) b.bound jobs ++ task_lines U jobs bounds
