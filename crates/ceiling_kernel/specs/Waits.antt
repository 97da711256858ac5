-- Who holds what and who asks for it, and the law that no job waits.
use Rattle.std.specs.Prelude.{◌≡◌, ℕ, ◌+◌, ◌<◌, ◌≤◌, Bool, true, false, ◌&&◌, ◌==◌, Some, List, length}
use Rattle.std.specs.List.{list_any}
use Rattle.task_sheet.specs.Sheet.{Task, CriticalSection}
use Rattle.task_sheet.specs.TaskSet.{IsTaskSet}
use Rattle.task_sheet.specs.Locks.{names_lock}
use Rattle.task_sheet.specs.Orders.{IsOrder}
use Rattle.ceiling_kernel.specs.Behaviours.{AreWithinSheets}
use Rattle.ceiling_kernel.specs.Tick.{Node, Job, job_at, job_task, level_of_job, active_of, ceiling, is_inside, executed_before, picked}

-- a node of a valid set, with each of its tasks once in the order
pub record IsNode (node : Node) : Type 0 where
  pub tasks : IsTaskSet node.tasks
  pub order : IsOrder node.tasks node.order

-- ---- the word that says how late jobs may be
-- how long after its arrival a job of the task becomes ready at the latest: its release jitter (Audsley et al. 1993)
abbrev pub lateness_of : Task → ℕ
lateness_of t = t.jitter

-- jobs of the node's tasks, none too late, those of one task at least its period apart, and what each does within its
-- task's sheet
pub record AreLegalJobs (node : Node) (jobs : List Job) : Type 0 where
  pub known : (j : ℕ) → j < length jobs → (job_at jobs j).task < length node.tasks
  pub not_early : (j : ℕ) → j < length jobs → (job_at jobs j).arrival ≤ (job_at jobs j).ready
  pub not_late : (j : ℕ) → j < length jobs
      → (job_at jobs j).ready ≤ (job_at jobs j).arrival + lateness_of (job_task node jobs j)
  pub spaced : (j k : ℕ) → j < k → k < length jobs → (job_at jobs j).task ≡ (job_at jobs k).task
      → (job_at jobs j).arrival + (job_task node jobs k).period ≤ (job_at jobs k).arrival
  pub within : AreWithinSheets node jobs

-- job k overruns the job before it: that one, of the same task, isn't finished when k becomes ready
abbrev pub Overruns : Node → List Job → ℕ → Type 0
Overruns node jobs k =
    (j : ℕ) × (j < k)
    × ((job_at jobs j).task ≡ (job_at jobs k).task)
    × (executed_before node jobs (job_at jobs k).ready j < (job_at jobs j).executes)

-- no job overruns the one before it
abbrev pub NoOverrun : Node → List Job → Type 0
NoOverrun node jobs = (k : ℕ) → k < length jobs → ¬ Overruns node jobs k

-- no job that is ready by tick t overran the one before it
abbrev pub NoOverrunBy : Node → List Job → ℕ → Type 0
NoOverrunBy node jobs t =
    (k : ℕ) → k < length jobs → (job_at jobs k).ready ≤ t → ¬ Overruns node jobs k

-- ---- locks
-- after e ticks a job with these sections holds the lock
abbrev pub holds_lock : List CriticalSection → ℕ → List ℕ → Bool
holds_lock sections e lock = list_any (λ s. is_inside s e && names_lock s lock) sections

-- picked after e ticks, it asks for the lock
abbrev pub asks_lock : List CriticalSection → ℕ → List ℕ → Bool
asks_lock sections e lock = list_any (λ s. (s.at == e) && names_lock s lock) sections

-- Job p, which asks for a lock in tick t, holds none, and nobody holds that one; its priority is then its own level, at
-- most the lock's ceiling: so it doesn't wait, and pthread_mutex_lock doesn't fail with EINVAL (POSIX.1-2017).
pub record IsGranted (node : Node) (jobs : List Job) (t p : ℕ) (lock : List ℕ) : Type 0 where
  pub holds_none : (other : List ℕ)
      → holds_lock (job_at jobs p).sections (executed_before node jobs t p) other ≡ false
  pub is_free : (k : ℕ) → k < length jobs
      → holds_lock (job_at jobs k).sections (executed_before node jobs t k) lock ≡ false
  pub at_own_level : active_of node jobs (executed_before node jobs t) p ≡ level_of_job node jobs p
  pub within_ceiling : level_of_job node jobs p ≤ ceiling node lock

-- whoever asks for a lock gets it
abbrev pub EachIsGranted : Node → List Job → Type 0
EachIsGranted node jobs =
    (t p : ℕ) (lock : List ℕ) → picked node jobs t ≡ Some p
    → asks_lock (job_at jobs p).sections (executed_before node jobs t p) lock ≡ true
    → IsGranted node jobs t p lock

-- as long as no job overruns, whoever asks for a lock gets it
abbrev pub NobodyWaits : Node → List Job → Type 0
NobodyWaits node jobs =
    (t p : ℕ) (lock : List ℕ) → NoOverrunBy node jobs t → picked node jobs t ≡ Some p
    → asks_lock (job_at jobs p).sections (executed_before node jobs t p) lock ≡ true
    → IsGranted node jobs t p lock

-- no job asks for a lock that it holds
abbrev pub AskAnew : List Job → Type 0
AskAnew jobs =
    (j e : ℕ) (lock : List ℕ) → asks_lock (job_at jobs j).sections e lock ≡ true
    → holds_lock (job_at jobs j).sections e lock ≡ false

-- Nobody holds the lock for which job p asks in tick t, perhaps inside of another section, and its own level is at most
-- the lock's ceiling: so it doesn't wait, and pthread_mutex_lock doesn't fail with EINVAL (POSIX.1-2017).
pub record IsFree (node : Node) (jobs : List Job) (t p : ℕ) (lock : List ℕ) : Type 0 where
  pub is_free : (k : ℕ) → k < length jobs
      → holds_lock (job_at jobs k).sections (executed_before node jobs t k) lock ≡ false
  pub within_ceiling : level_of_job node jobs p ≤ ceiling node lock

-- as long as no job overruns, whoever asks for a lock finds it free
abbrev pub NobodyFindsItTaken : Node → List Job → Type 0
NobodyFindsItTaken node jobs =
    (t p : ℕ) (lock : List ℕ) → NoOverrunBy node jobs t → picked node jobs t ≡ Some p
    → asks_lock (job_at jobs p).sections (executed_before node jobs t p) lock ≡ true
    → IsFree node jobs t p lock

-- as long as no job overruns, no two jobs hold a lock after a tick
abbrev pub OneOwner : Node → List Job → Type 0
OneOwner node jobs =
    (t j k : ℕ) (lock : List ℕ) → NoOverrunBy node jobs t
    → holds_lock (job_at jobs j).sections (executed_before node jobs (t + 1) j) lock ≡ true
    → holds_lock (job_at jobs k).sections (executed_before node jobs (t + 1) k) lock ≡ true
    → j ≡ k
