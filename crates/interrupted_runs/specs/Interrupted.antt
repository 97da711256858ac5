-- Runs of the kernel in which timers and interrupts take the processor: they stand above all tasks, and a job executes only
-- where nothing is left of what has come of them (Burns, Wellings). Which job that is, says the tick rule.
use Rattle.std.specs.Prelude.{◌≡◌, ℕ, zero, suc, ◌+◌, ◌<◌, ◌≤◌, nat_lt, Bool, if◌then◌else◌, List, length}
use Rattle.task_sheet.specs.Indexes.{sum_below}
use Rattle.task_sheet.specs.Demand.{interrupts_within, IsResponseOf}
use Rattle.ceiling_kernel.specs.Tick.{Node, Job, job_at, job_task, one_more, pick}
use Rattle.ceiling_kernel.specs.Bounds.{PassesBy, above_of, response_by}

-- ---- what comes, in each tick for so many ticks
-- how much has come before tick t
abbrev pub come_before : (comes : ℕ → ℕ) → ℕ → ℕ
come_before comes t = sum_below t comes

-- how many of the ticks before tick t it has taken
unfoldable pub taken_before : (comes : ℕ → ℕ) → ℕ → ℕ
taken_before comes zero = 0
taken_before comes (suc t) =
    if nat_lt (taken_before comes t) (come_before comes (suc t))
    then suc (taken_before comes t)
    else taken_before comes t

-- it takes tick t: some of what has come is left
abbrev pub is_taken : (comes : ℕ → ℕ) → ℕ → Bool
is_taken comes t = nat_lt (taken_before comes t) (come_before comes (suc t))

-- ---- the ticks that are left
-- how many ticks each job has executed before tick t
unfoldable pub executed_beside : (comes : ℕ → ℕ) → Node → List Job → ℕ → ℕ → ℕ
executed_beside comes node jobs zero j = 0
executed_beside comes node jobs (suc t) j =
    if is_taken comes t
    then executed_beside comes node jobs t j
    else one_more (pick node jobs (executed_beside comes node jobs t) t) (executed_beside comes node jobs t) j

-- ---- what the analysis counts
-- in no window comes more than the demand has for its length
abbrev pub ComeWithin : (comes : ℕ → ℕ) → Node → Type 0
ComeWithin comes node =
    (a t : ℕ) → 0 < t → sum_below t (λ s. comes (a + s)) ≤ interrupts_within node.tasks t

-- THE BOUND HOLDS, timers and interrupts with it: each job of a task that passes by t has executed all that it executes by the
-- end of that response
abbrev pub BoundHoldsBeside : (comes : ℕ → ℕ) → Node → List Job → Type 0
BoundHoldsBeside comes node jobs =
    (j t : ℕ) → j < length jobs → PassesBy node (job_at jobs j).task t
    → (job_at jobs j).executes
    ≤ executed_beside comes node jobs ((job_at jobs j).arrival + response_by (job_task node jobs j) t) j

-- so by the response of the analysis, where it is within the deadline
abbrev pub ResponsesHoldBeside : (comes : ℕ → ℕ) → Node → List Job → Type 0
ResponsesHoldBeside comes node jobs =
    (j r : ℕ) → j < length jobs
    → IsResponseOf node.tasks (job_at jobs j).task (above_of node (job_at jobs j).task) r
    → r ≤ (job_task node jobs j).deadline
    → (job_at jobs j).executes ≤ executed_beside comes node jobs ((job_at jobs j).arrival + r) j

-- no job is ready before the one before it, of the same task, has executed all
abbrev pub NoneOverruns : (comes : ℕ → ℕ) → Node → List Job → Type 0
NoneOverruns comes node jobs =
    (j k : ℕ) → j < k → k < length jobs → (job_at jobs j).task ≡ (job_at jobs k).task
    → (job_at jobs j).executes ≤ executed_beside comes node jobs (job_at jobs k).ready j
