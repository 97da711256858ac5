-- The lines that say what a trace shows.
use Rattle.std.specs.Prelude.{ℕ, ◌+◌, ◌==◌, List, [], ◌∷◌, ◌++◌, length, Option, Some, None, codes, if◌then◌else◌}
use Rattle.std.specs.Fmt.{decimal}
use Rattle.task_sheet.specs.Demand.{greatest_of}
use Rattle.observed.specs.declared.promises.Promise.{Promise}
use Rattle.observed.specs.SeenJob.{SeenData}
use Rattle.observed_lines.specs.Broken.{broken_lines}
use Rattle.observed_lines.specs.Jobless.{jobless_lines}
use Rattle.observed_lines.specs.Reached.{done_of, least_gap, of_level}
use Rattle.observed_lines.specs.declared.leeway.Leeway.{Leeway}

-- a time, or `-` for none, and what is promised of it
abbrev pub beside_words : Option ℕ → (promised : ℕ) → List ℕ
beside_words None promised = codes " - " ++ decimal promised
beside_words (Some time) promised = codes " " ++ decimal time ++ codes " " ++ decimal promised

-- the greatest response of a level, where a job of it is done
abbrev pub greatest_response : ℕ → List SeenData → Option ℕ
greatest_response level seen =
    if length (done_of level seen) == 0
    then None
    else Some (greatest_of (λ s. s.lasted) (done_of level seen))

-- the task's jobs, their longest execution, and its cost
abbrev pub cost_part : ℕ → Promise → List SeenData → List ℕ
cost_part level promise seen =
    codes "task " ++ promise.name ++ codes " " ++ decimal (length (of_level level seen))
    ++ codes " " ++ decimal (greatest_of (λ s. s.executed) (of_level level seen))
    ++ codes " " ++ decimal promise.cost

-- the task at a level: the least gap stands beside its period, the greatest response beside its bound
abbrev pub task_line : ℕ → Promise → List SeenData → List ℕ
task_line level promise seen =
    cost_part level promise seen
    ++ beside_words (least_gap (of_level level seen)) promise.period
    ++ beside_words (greatest_response level seen) promise.bound ++ codes "\n"

-- a line for each task, of which the first has a level
abbrev pub task_lines : ℕ → List Promise → List SeenData → List ℕ
task_lines level [] seen = []
task_lines level (promise ∷ promises) seen =
    task_line level promise seen ++ task_lines (level + 1) promises seen

-- those that have no job, unless they need not have one
abbrev pub missing_lines : Leeway → List Promise → List SeenData → List ℕ
missing_lines leeway promises seen = if leeway.jobless then [] else jobless_lines 0 promises seen

-- the tasks, the lowest first, those of them that have no job, and then what is broken
abbrev pub observed_lines : Leeway → List Promise → List SeenData → List ℕ
observed_lines leeway promises seen =
    task_lines 0 promises seen ++ missing_lines leeway promises seen
    ++ broken_lines leeway.tolerance seen
