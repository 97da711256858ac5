-- What the slices of a trace show of a run beside timers and interrupts (Burns, Wellings). No trace says when these take the
-- processor: their time lies in the slice of a job that they interrupt, in that of a thread that the set doesn't have, or in
-- none.
use Rattle.std.specs.Prelude.{◌≡◌, ℕ, ◌-◌, ◌<◌, ◌≤◌, ◌⊎◌, false, List, [], ◌∷◌, length, Option, Some, None, IfSome}
use Rattle.task_sheet.specs.Sheet.{Task, same_bytes, task_at}
use Rattle.ceiling_kernel.specs.Tick.{Node, Job, job_at, job_task, active_of}
use Rattle.interrupted_runs.specs.Interrupted.{executed_beside}
use Rattle.interrupted_runs.specs.Seen.{IsSeen}
use Rattle.trace_text.specs.declared.rows.TraceSlice.{TraceSlice}
use Rattle.observed.specs.Promises.{number_at}

-- ---- ticks
-- job p is ready in tick t, and lacks some
pub record IsThere (comes : ℕ → ℕ) (node : Node) (jobs : List Job) (t p : ℕ) : Type 0 where
  pub is_job : p < length jobs
  pub ready : (job_at jobs p).ready ≤ t
  pub lacks : executed_beside comes node jobs t p < (job_at jobs p).executes

-- whom a trace shows in each tick: whom the tick rule picks; where timers or interrupts take the tick, perhaps any job that is
-- there, or none of the set's
pub record AreShown (comes : ℕ → ℕ) (node : Node) (jobs : List Job) (shown : ℕ → Option ℕ) : Type 0 where
  pub ruled : IsSeen comes node jobs shown
  pub there : (t p : ℕ) → shown t ≡ Some p → IsThere comes node jobs t p

-- in each tick from one time up to another the same
abbrev pub AllShow : (shown : ℕ → Option ℕ) → (from to : ℕ) → Option ℕ → Type 0
AllShow shown from to who = (t : ℕ) → from ≤ t → t < to → shown t ≡ who

-- the priority of job p's thread in tick t, where these are the numbers of the threads, by level: that of the highest of its
-- own level and its locks' ceilings
abbrev pub priority_in : (comes : ℕ → ℕ) → Node → (numbers : List ℕ) → List Job → (t p : ℕ) → ℕ
priority_in comes node numbers jobs t p =
    number_at numbers (active_of node jobs (executed_beside comes node jobs t) p - 1)

-- ---- slices
-- the slice is of job p; where it says a priority, then that of a tick of it
pub record IsOfJob (comes : ℕ → ℕ) (node : Node) (numbers : List ℕ) (jobs : List Job) (shown : ℕ → Option ℕ)
    (s : TraceSlice) (p : ℕ) : Type 0 where
  pub name : s.name ≡ (job_task node jobs p).name
  pub all : AllShow shown s.start s.stop (Some p)
  pub priority : IfSome s.priority (λ number. (t : ℕ) × (s.start ≤ t) × (t < s.stop)
      × (number ≡ priority_in comes node numbers jobs t p))

-- no task of the set has the name
abbrev pub IsStrange : List Task → List ℕ → Type 0
IsStrange U name = (k : ℕ) → k < length U → same_bytes (task_at U k).name name ≡ false

-- the slice is of a thread that the set doesn't have
pub record IsOfStranger (node : Node) (shown : ℕ → Option ℕ) (s : TraceSlice) : Type 0 where
  pub name : IsStrange node.tasks s.name
  pub all : AllShow shown s.start s.stop None

-- slices by time are those of the ticks from one time up to another; a job may have several in a row
abbrev pub ShowTicks : (comes : ℕ → ℕ) → Node → (numbers : List ℕ) → List Job → (shown : ℕ → Option ℕ)
    → (from until : ℕ) → List TraceSlice → Type 0
ShowTicks comes node numbers jobs shown from until [] = AllShow shown from until None
ShowTicks comes node numbers jobs shown from until (s ∷ ss) =
    (from ≤ s.start) × (s.start < s.stop) × (s.stop ≤ until)
    × AllShow shown from s.start None
    × (IsOfStranger node shown s ⊎ ((p : ℕ) × IsOfJob comes node numbers jobs shown s p))
    × ShowTicks comes node numbers jobs shown s.stop until ss
