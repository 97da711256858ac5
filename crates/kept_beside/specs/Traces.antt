-- Which traces a run beside timers and interrupts has.
use Rattle.std.specs.Prelude.{ℕ, List, Option, None, if◌then◌else◌}
use Rattle.ceiling_kernel.specs.Tick.{Node, Job, pick}
use Rattle.interrupted_runs.specs.Interrupted.{executed_beside, is_taken}
use Rattle.trace_text.specs.declared.rows.TraceJob.{TraceJob}
use Rattle.trace_text.specs.declared.rows.TraceSlice.{TraceSlice}
use Rattle.kept_beside.specs.ShownSlices.{ShowTicks}
use Rattle.kept_beside.specs.ShownJobs.{AreJobLines}

-- in each tick whom the tick rule would pick: the time of timers and interrupts is that of the job that they interrupt
abbrev pub shown_as_picked : (comes : ℕ → ℕ) → Node → List Job → ℕ → Option ℕ
shown_as_picked comes node jobs t = pick node jobs (executed_beside comes node jobs t) t

-- none of the set's while they take the tick: their time is nobody's, or another thread's
abbrev pub shown_as_nobodys : (comes : ℕ → ℕ) → Node → List Job → ℕ → Option ℕ
shown_as_nobodys comes node jobs t = if is_taken comes t then None else shown_as_picked comes node jobs t

-- slices and job lines show it
pub record HasTrace (comes : ℕ → ℕ) (node : Node) (numbers : List ℕ) (jobs : List Job) (shown : ℕ → Option ℕ)
    (until : ℕ) : Type 0 where
  pub slices : List TraceSlice
  pub ticks : ShowTicks comes node numbers jobs shown 0 until slices
  pub rows : List TraceJob
  pub lines : AreJobLines comes node jobs until 0 rows
