-- The bound of the analysis (Audsley et al. 1993) against the tick rule, by which no timer and no interrupt takes anything:
-- the demand counts them, so the bound holds all the more.
use Rattle.std.specs.Prelude.{◌≡◌, ℕ, ◌+◌, ◌-◌, ◌<◌, ◌≤◌, Bool, ◌&&◌, nat_lt, nat_le, ◌==◌, if◌then◌else◌, List, [], ◌∷◌, length}
use Rattle.task_sheet.specs.Sheet.{Task, task_at}
use Rattle.task_sheet.specs.Indexes.{Indexes, sum_below}
use Rattle.task_sheet.specs.Demand.{releases_within, blocking_of, interference_within, demand_of, limit_of, IsResponseOf}
use Rattle.ceiling_kernel.specs.Tick.{Node, Job, job_at, job_task, level_in_order, executed_before}
use Rattle.ceiling_kernel.specs.Waits.{lateness_of}

-- the tasks at higher levels than task i
abbrev pub above_of : Node → ℕ → Indexes
above_of node i h = nat_lt (level_in_order node i) (level_in_order node h)

-- the tasks that stand after task i in an order
abbrev pub after_of : List ℕ → ℕ → List ℕ
after_of [] i = []
after_of (k ∷ order) i = if k == i then order else after_of order i

-- job j is ready in the window of t ticks from a
abbrev pub is_ready_in : List Job → (a t j : ℕ) → Bool
is_ready_in jobs a t j = nat_le a (job_at jobs j).ready && nat_lt (job_at jobs j).ready (a + t)

-- how many jobs of task h become ready in the window
abbrev pub ready_within : List Job → (h a t : ℕ) → ℕ
ready_within jobs h a t =
    sum_below (length jobs) (λ j. if is_ready_in jobs a t j && ((job_at jobs j).task == h) then 1
    else 0)

-- a window holds no more jobs of a task than the analysis counts for its length
abbrev pub WindowsHold : Node → List Job → Type 0
WindowsHold node jobs =
    (h a t : ℕ) → h < length node.tasks → 0 < t
    → ready_within jobs h a t ≤ releases_within (task_at node.tasks h) t

-- t shows that task i passes: from 1 to its limit, it covers the task's demand below the tasks at higher levels
pub record PassesBy (node : Node) (i t : ℕ) : Type 0 where
  pub from_one : 0 < t
  pub in_time : t ≤ limit_of (task_at node.tasks i)
  pub enough : demand_of node.tasks i (above_of node i) t ≤ t

-- the response that t gives a task, counted from the arrival of its job: t, and how late the job may be
abbrev pub response_by : Task → ℕ → ℕ
response_by task t = t + lateness_of task

-- the response of the analysis, where it is within the deadline, is the one that some t gives
abbrev pub ResponsesBound : Node → Type 0
ResponsesBound node =
    (i r : ℕ) → IsResponseOf node.tasks i (above_of node i) r → r ≤ (task_at node.tasks i).deadline
    → (t : ℕ) × PassesBy node i t × (response_by (task_at node.tasks i) t ≡ r)

-- each job of a task that passes by t has executed all that it executes by the end of that response
abbrev pub BoundHolds : Node → List Job → Type 0
BoundHolds node jobs =
    (j t : ℕ) → j < length jobs → PassesBy node (job_at jobs j).task t
    → (job_at jobs j).executes
    ≤ executed_before node jobs ((job_at jobs j).arrival + response_by (job_task node jobs j) t) j

-- ---- but for a tick
-- what must be executed for task i in a window of t: its cost, what is left of a section that blocks it, and the jobs
-- of the tasks above; no timers or interrupts
abbrev pub work_of : Node → (i left t : ℕ) → ℕ
work_of node i left t =
    (task_at node.tasks i).cost + left + interference_within node.tasks (above_of node i) t

-- t covers the work of task i, where a section that blocks is left after its first tick
pub record CoversBy (node : Node) (i t : ℕ) : Type 0 where
  pub from_one : 0 < t
  pub in_time : t ≤ limit_of (task_at node.tasks i)
  pub enough : work_of node i (blocking_of node.tasks i (above_of node i) - 1) t ≤ t

-- each job of a task has executed all that it executes such a time after it is ready: a section that blocks has begun
-- before, so that a tick of it is gone
abbrev pub TighterBoundHolds : Node → List Job → Type 0
TighterBoundHolds node jobs =
    (j t : ℕ) → j < length jobs → CoversBy node (job_at jobs j).task t
    → (job_at jobs j).executes ≤ executed_before node jobs ((job_at jobs j).ready + t) j
