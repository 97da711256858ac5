-- What the job lines of a trace say of a run beside timers and interrupts.
use Rattle.std.specs.Prelude.{◌≡◌, ℕ, ◌+◌, ◌<◌, ◌≤◌, List, [], ◌∷◌, length, Option, Some, None, IfSome}
use Rattle.ceiling_kernel.specs.Tick.{Node, Job, job_at, job_task}
use Rattle.interrupted_runs.specs.Interrupted.{executed_beside}
use Rattle.trace_text.specs.declared.rows.TraceJob.{TraceJob}

-- job j finishes at the first time by which it has executed all; or at none up to the trace's end
abbrev pub IsFinish : (comes : ℕ → ℕ) → Node → List Job → (until j : ℕ) → Option ℕ → Type 0
IsFinish comes node jobs until j None =
    (t : ℕ) → t ≤ until → executed_beside comes node jobs t j < (job_at jobs j).executes
IsFinish comes node jobs until j (Some finish) =
    (finish ≤ until) × ((job_at jobs j).executes ≤ executed_beside comes node jobs finish j)
    × ((t : ℕ) → t < finish → executed_beside comes node jobs t j < (job_at jobs j).executes)

-- The line is job j's. Its arrival may be seen late, at the latest when the job is ready: a thread that wakes is ready. Where
-- it says when that was, it says the arrival itself.
pub record IsJobLine (comes : ℕ → ℕ) (node : Node) (jobs : List Job) (until j : ℕ) (row : TraceJob)
    : Type 0 where
  pub name : row.name ≡ (job_task node jobs j).name
  pub no_sooner : (job_at jobs j).arrival ≤ row.arrival
  pub no_later : row.arrival ≤ (job_at jobs j).ready
  pub in_run : row.arrival ≤ until
  pub ready : IfSome row.ready (λ time. (time ≡ (job_at jobs j).ready)
      × (row.arrival ≡ (job_at jobs j).arrival))
  pub finish : IsFinish comes node jobs until j row.finish

-- a line for each job from one on, in their order
abbrev pub AreJobLines : (comes : ℕ → ℕ) → Node → List Job → (until j : ℕ) → List TraceJob → Type 0
AreJobLines comes node jobs until j [] = j ≡ length jobs
AreJobLines comes node jobs until j (row ∷ rows) =
    IsJobLine comes node jobs until j row × AreJobLines comes node jobs until (j + 1) rows
