-- Which jobs of a run aren't on a chain's clock, where that begins with the run.
use Rattle.std.specs.Prelude.{◌≡◌, ◌↔◌, ℕ, ◌%◌, ◌<◌, ◌&&◌, ◌==◌, Bool, not, List, [], ◌∷◌, ◌++◌, codes, Option, Some, None, Ok}
use Rattle.std.specs.Fmt.{decimal}
use Rattle.std.specs.List.{find}
use Rattle.task_sheet.specs.Sheet.{Task, task_at}
use Rattle.lines.specs.Naming.{name_at}
use Rattle.ceiling_kernel.specs.Tick.{Node}
use Rattle.ceiling_kernel.specs.Releases.{jobs_of}
use Rattle.ceiling_kernel.specs.Runs.{Runs}
use Rattle.ceiling_kernel.specs.declared.trace.JobRecord.{JobRecord}
use Rattle.ceiling_kernel.specs.declared.trace.Release.{Release}
use Rattle.ceiling_kernel.specs.declared.trace.Trace.{Trace}
use Rattle.chains.specs.Clocks.{KeepsClock}
use Rattle.chains.specs.Gaps.{gap_of}
use Rattle.chain_runs.specs.Slices.{task_of}

-- how long after a whole number of a task's periods a time is
abbrev pub phase_of : List Task → (task time : ℕ) → ℕ
phase_of U task time = time % gap_of (task_at U task)

-- a job is the task's, and doesn't arrive at this offset
abbrev pub is_stray : List Task → (task offset : ℕ) → JobRecord → Bool
is_stray U task offset job =
    (task_of U job == task) && not (phase_of U task job.release == offset)

-- the line of the first, where there is one
abbrev pub stray_words : List Task → (task offset : ℕ) → Option JobRecord → List ℕ
stray_words U task offset None = []
stray_words U task offset (Some job) =
    codes "offset " ++ name_at U task ++ codes " " ++ decimal job.release ++ codes " "
    ++ decimal (phase_of U task job.release) ++ codes " of " ++ decimal offset ++ codes "\n"

abbrev pub stray_line : List Task → Trace → (task offset : ℕ) → List ℕ
stray_line U trace task offset =
    stray_words U task offset (find (is_stray U task offset) trace.jobs.items)

-- those of tasks with these offsets
abbrev pub stray_lines : List Task → Trace → (offsets tasks : List ℕ) → List ℕ
stray_lines U trace [] tasks = []
stray_lines U trace (offset ∷ offsets) [] = []
stray_lines U trace (offset ∷ offsets) (task ∷ tasks) =
    stray_line U trace task offset ++ stray_lines U trace offsets tasks

-- NO LINE, NO STRAY: in a run the task with an offset, which is below its period, has no line exactly where its jobs keep the
-- clock that begins with the run
abbrev pub StraysAreTold : Type 0
StraysAreTold =
    (node : Node) (rs : List Release) (until : ℕ) (trace : Trace) (i offset : ℕ)
    → Runs node rs until (Ok trace) → offset < gap_of (task_at node.tasks i)
    → (stray_line node.tasks trace i offset ≡ []) ↔ KeepsClock node (jobs_of node.tasks rs) 0 offset i
