-- What is seen of a run beside timers and interrupts: in a tick that they take perhaps the job that they interrupt, or
-- another one, or none of the set's tasks.
use Rattle.std.specs.Prelude.{◌≡◌, ℕ, ◌+◌, ◌<◌, ◌≤◌, ◌==◌, nat_lt, Bool, true, false, if◌then◌else◌, List, length, Option, Some, None}
use Rattle.task_sheet.specs.Indexes.{sum_below}
use Rattle.task_sheet.specs.Demand.{blocking_of, interrupts_within}
use Rattle.ceiling_kernel.specs.Tick.{Node, Job, job_at, level_of_job, pick}
use Rattle.ceiling_kernel.specs.Bounds.{above_of}
use Rattle.interrupted_runs.specs.Interrupted.{is_taken, executed_beside, taken_before}

-- in each tick that they don't take, whom the tick rule picks
abbrev pub IsSeen : (comes : ℕ → ℕ) → Node → List Job → (seen : ℕ → Option ℕ) → Type 0
IsSeen comes node jobs seen =
    (t : ℕ) → is_taken comes t ≡ false → seen t ≡ pick node jobs (executed_beside comes node jobs t) t

-- whom is counted: job j; a job of a level below that of job j; none of the set's tasks
abbrev pub is_own : ℕ → Option ℕ → Bool
is_own j None = false
is_own j (Some p) = p == j

abbrev pub is_lower : Node → List Job → ℕ → Option ℕ → Bool
is_lower node jobs j None = false
is_lower node jobs j (Some p) = nat_lt (level_of_job node jobs p) (level_of_job node jobs j)

abbrev pub is_none_of_set : Option ℕ → Bool
is_none_of_set None = true
is_none_of_set (Some p) = false

-- in how many of t ticks from a
abbrev pub seen_within : (counts : Option ℕ → Bool) → (seen : ℕ → Option ℕ) → (a t : ℕ) → ℕ
seen_within counts seen a t = sum_below t (λ s. if counts (seen (a + s)) then 1 else 0)

-- job j is ready, and lacks some, in each of them
pub record IsOpen (comes : ℕ → ℕ) (node : Node) (jobs : List Job) (j a t : ℕ) : Type 0 where
  pub is_job : j < length jobs
  pub ready : (job_at jobs j).ready ≤ a
  pub lacks : (u : ℕ) → u < a + t → executed_beside comes node jobs u j < (job_at jobs j).executes

-- in a window they take no more ticks than the demand has for its length
abbrev pub TakenWithin : (comes : ℕ → ℕ) → Node → Type 0
TakenWithin comes node =
    (a t : ℕ) → 0 < t → taken_before comes (a + t) ≤ taken_before comes a + interrupts_within node.tasks t

-- No more is seen than the demand has for a job: of its own in any window; while it is open, of those below it, and of none of
-- the set's.
pub record SeenKeepsToDemand (comes : ℕ → ℕ) (node : Node) (jobs : List Job) (seen : ℕ → Option ℕ)
    : Type 0 where
  pub own : (j a t : ℕ) → 0 < t → seen_within (is_own j) seen a t
      ≤ (job_at jobs j).executes + interrupts_within node.tasks t
  pub blocked : (j a t : ℕ) → 0 < t → IsOpen comes node jobs j a t
      → seen_within (is_lower node jobs j) seen a t
      ≤ blocking_of node.tasks (job_at jobs j).task (above_of node (job_at jobs j).task)
      + interrupts_within node.tasks t
  pub idle : (j a t : ℕ) → 0 < t → IsOpen comes node jobs j a t
      → seen_within is_none_of_set seen a t ≤ interrupts_within node.tasks t
