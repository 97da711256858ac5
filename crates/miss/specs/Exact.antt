-- The worst case of the analysis (Liu, Layland 1973; Joseph, Pandya 1986; Audsley et al. 1993) in the simulated kernel:
-- all tasks above a job's become ready with it and then as early as they may, when a lower job has executed the first
-- tick of the longest section that can block. There the analysis is exact but for that tick, and for timers and interrupts,
-- which take nothing there.
use Rattle.std.specs.Prelude.{◌≡◌, ℕ, ◌+◌, ◌-◌, ◌<◌, ◌≤◌, ◌⊎◌, true, Contains, List, length}
use Rattle.task_sheet.specs.Sheet.{Task, CriticalSection, task_at}
use Rattle.task_sheet.specs.Demand.{releases_within, blocking_of, limit_of}
use Rattle.ceiling_kernel.specs.Tick.{Node, Job, job_at, job_task, level_in_order, level_of_job, is_inside, top_ceiling, executed_before}
use Rattle.ceiling_kernel.specs.States.{active_at}
use Rattle.ceiling_kernel.specs.Readings.{IsFinishAt}
use Rattle.ceiling_kernel.specs.Waits.{lateness_of}
use Rattle.ceiling_kernel.specs.Bounds.{above_of, ready_within, work_of, CoversBy}

-- a job executes its task's cost, with the sections of its sheet
pub record IsWhole (t : Task) (job : Job) : Type 0 where
  pub executes : job.executes ≡ t.cost
  pub sections : job.sections ≡ t.sections

-- at a time a job of a lower level is inside a section whose ceiling reaches the level, so many ticks before its end
pub record IsHeldUp (node : Node) (jobs : List Job) (s level left : ℕ) : Type 0 where
  pub job : ℕ
  pub is_job : job < length jobs
  pub lower : level_of_job node jobs job < level
  pub section : CriticalSection
  pub of_job : Contains (job_at jobs job).sections section
  pub reaches : level ≤ top_ceiling node section.locks
  pub inside : is_inside section (executed_before node jobs s job) ≡ true
  pub to_go : section.at + section.len ≡ executed_before node jobs s job + left

-- job j, which executes its cost, is ready as late as it may be, and then as many jobs of each task above become ready, in
-- each window up to its limit, as the analysis counts, and these execute their costs; so many ticks of a section that
-- blocks are left
pub record IsWorst (node : Node) (jobs : List Job) (j left : ℕ) : Type 0 where
  pub is_job : j < length jobs
  pub whole : IsWhole (job_task node jobs j) (job_at jobs j)
  pub latest : (job_at jobs j).ready ≡ (job_at jobs j).arrival + lateness_of (job_task node jobs j)
  pub dense : (h t : ℕ) → h < length node.tasks → above_of node (job_at jobs j).task h ≡ true → 0 < t
      → t ≤ limit_of (job_task node jobs j)
      → releases_within (task_at node.tasks h) t ≤ ready_within jobs h (job_at jobs j).ready t
  pub costs : (k : ℕ) → k < length jobs → above_of node (job_at jobs j).task (job_at jobs k).task ≡ true
      → (job_at jobs j).ready ≤ (job_at jobs k).ready
      → (job_at jobs k).executes ≡ (job_task node jobs k).cost
  pub held_up : (left ≡ 0) ⊎ IsHeldUp node jobs (job_at jobs j).ready
      (level_in_order node (job_at jobs j).task) left

-- a job of task i that executes its cost executes the last tick at its own level
abbrev pub EndsLow : Node → ℕ → Type 0
EndsLow node i = active_at node i ((task_at node.tasks i).cost - 1) ≡ level_in_order node i

-- no time from 1 on, and up to t, covers the work
abbrev pub NoneCovers : Node → (i left t : ℕ) → Type 0
NoneCovers node i left t = (u : ℕ) → 0 < u → u ≤ t → u < work_of node i left u

-- THE WORST CASE COMES: in it a job isn't done before a time covers the work
abbrev pub WorstComes : Node → List Job → Type 0
WorstComes node jobs =
    (j left t : ℕ) → IsWorst node jobs j left → EndsLow node (job_at jobs j).task
    → t ≤ limit_of (job_task node jobs j) → NoneCovers node (job_at jobs j).task left t
    → executed_before node jobs ((job_at jobs j).ready + t) j < (job_at jobs j).executes

-- so it misses its deadline where none does up to the limit
abbrev pub WorstMisses : Node → List Job → Type 0
WorstMisses node jobs =
    (j left : ℕ) → IsWorst node jobs j left → EndsLow node (job_at jobs j).task
    → NoneCovers node (job_at jobs j).task left (limit_of (job_task node jobs j))
    → executed_before node jobs ((job_at jobs j).arrival + (job_task node jobs j).deadline) j
    < (job_at jobs j).executes

-- THE ANALYSIS IS EXACT BUT FOR A TICK: in the worst case a job finishes exactly at the least time that covers its work,
-- of the section that blocks all but its first tick
abbrev pub WorstIsExact : Node → List Job → Type 0
WorstIsExact node jobs =
    (j r : ℕ) → IsWorst node jobs j (blocking_of node.tasks (job_at jobs j).task
    (above_of node (job_at jobs j).task) - 1)
    → EndsLow node (job_at jobs j).task → CoversBy node (job_at jobs j).task r
    → ((u : ℕ) → 0 < u → u < r
    → u < work_of node (job_at jobs j).task (blocking_of node.tasks (job_at jobs j).task
    (above_of node (job_at jobs j).task) - 1) u)
    → IsFinishAt node jobs j ((job_at jobs j).ready + r)
