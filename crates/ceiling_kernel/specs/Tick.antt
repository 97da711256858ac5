-- The tick rule of the simulated kernel: which job executes in which tick, over plain records and apart from how the
-- code runs. One processor; tick t lasts from microsecond t to microsecond t + 1. The sources are POSIX.1-2017:
-- SCHED_FIFO, under which the head of the highest non-empty thread list runs, and pthread_mutexattr_setprotocol with
-- PTHREAD_PRIO_PROTECT, under which an owner of mutexes executes at the higher of its own priority and the highest
-- ceiling of those that it owns, whether or not others are blocked on them.
use Rattle.std.specs.Prelude.{ℕ, zero, suc, ◌+◌, max, Bool, ◌&&◌, ◌||◌, nat_lt, nat_le, ◌==◌, if◌then◌else◌, Option, Some, None, List, [], ◌∷◌, length, slice_index_or}
use Rattle.std.specs.Option.{unwrap_or}
use Rattle.task_sheet.specs.Sheet.{Task, CriticalSection, task_at}
use Rattle.task_sheet.specs.Locks.{ceiling_of}
use Rattle.task_sheet.specs.Demand.{greatest_of}

-- ---- nodes and jobs
-- a node: its tasks by rank, and their order, lowest first
pub record Node : Type 0 where
  pub tasks : List Task
  pub order : List ℕ

-- the node of a set in an order of its indexes
abbrev pub node_in : List Task → List ℕ → Node
node_in U order = record { tasks = U; order = order }

-- a job: the index of its task; when it arrives; from when on it may execute, which is its arrival and how late it is;
-- for how many ticks it executes; and the critical sections that it takes, at times of its own execution
pub record Job : Type 0 where
  pub task : ℕ
  pub arrival : ℕ
  pub ready : ℕ
  pub executes : ℕ
  pub sections : List CriticalSection

-- stands past the end of a list of jobs
abbrev pub no_job : Job
no_job = record { task = 0; arrival = 0; ready = 0; executes = 0; sections = [] }

-- the job at a place, from 0
abbrev pub job_at : List Job → ℕ → Job
job_at jobs j = slice_index_or jobs j no_job

-- the task of job j
abbrev pub job_task : Node → List Job → ℕ → Task
job_task node jobs j = task_at node.tasks (job_at jobs j).task

-- ---- levels and ceilings
-- the level of a task in an order whose first task stands at a level; 0 where the order doesn't name it
abbrev pub level_from : ℕ → List ℕ → ℕ → ℕ
level_from level [] i = 0
level_from level (k ∷ order) i = if k == i then level else level_from (level + 1) order i

-- the level of a task: its place in the order, from 1
abbrev pub level_in_order : Node → ℕ → ℕ
level_in_order node i = level_from 1 node.order i

-- the ceiling of a lock: the level of its highest user (Sha, Rajkumar, Lehoczky 1990); 0 where nobody uses it
abbrev pub ceiling : Node → List ℕ → ℕ
ceiling node lock = unwrap_or (ceiling_of node.tasks node.order lock) 0

-- the highest ceiling of some locks
abbrev pub top_ceiling : Node → List (List ℕ) → ℕ
top_ceiling node locks = greatest_of (ceiling node) locks

-- A job that has executed e ticks is inside a section, and holds its locks, strictly between the section's ends.
abbrev pub is_inside : CriticalSection → ℕ → Bool
is_inside s e = nat_lt s.at e && nat_lt e (s.at + s.len)

-- the highest ceiling of the locks that a job with these sections holds after e ticks
abbrev pub held_ceiling : Node → List CriticalSection → ℕ → ℕ
held_ceiling node sections e =
    greatest_of (λ s. if is_inside s e then top_ceiling node s.locks else 0) sections

-- ---- the pick: of the jobs below n that are pending, the one of greatest active priority, and among equals the one
-- of lower own level
-- An owner of a lock, whose active priority a ceiling raises, has the lower own level of two that are equal:
-- it runs on.

-- job k gives way to job j
abbrev pub gives_way : (active level : ℕ → ℕ) → ℕ → ℕ → Bool
gives_way active level k j =
    nat_lt (active k) (active j) || ((active k == active j) && nat_lt (level j) (level k))

-- the better of one that was found before and job j
abbrev pub better_of : (pending : ℕ → Bool) (active level : ℕ → ℕ) → Option ℕ → ℕ → Option ℕ
better_of pending active level None j = if pending j then Some j else None
better_of pending active level (Some k) j =
    if pending j && gives_way active level k j then Some j else Some k

-- the best of the jobs below n
unfoldable pub best : (pending : ℕ → Bool) (active level : ℕ → ℕ) → ℕ → Option ℕ
best pending active level zero = None
best pending active level (suc j) = better_of pending active level (best pending active level j) j

-- ---- the ticks; a state is how many ticks each job has executed, by its place in the list of jobs
-- job j is pending at tick t: it is ready, and has not executed all that it executes
abbrev pub is_pending : List Job → (executed : ℕ → ℕ) → ℕ → ℕ → Bool
is_pending jobs executed t j =
    nat_le (job_at jobs j).ready t && nat_lt (executed j) (job_at jobs j).executes

-- job j's own level
abbrev pub level_of_job : Node → List Job → ℕ → ℕ
level_of_job node jobs j = level_in_order node (job_at jobs j).task

-- job j's active priority: the highest of its own level and the ceilings of the locks that it holds
abbrev pub active_of : Node → List Job → (executed : ℕ → ℕ) → ℕ → ℕ
active_of node jobs executed j =
    max (level_of_job node jobs j) (held_ceiling node (job_at jobs j).sections (executed j))

-- the job that executes in tick t
abbrev pub pick : Node → List Job → (executed : ℕ → ℕ) → ℕ → Option ℕ
pick node jobs executed t =
    best (is_pending jobs executed t) (active_of node jobs executed) (level_of_job node jobs)
    (length jobs)

-- one tick of that job
abbrev pub one_more : Option ℕ → (executed : ℕ → ℕ) → ℕ → ℕ
one_more None executed j = executed j
one_more (Some p) executed j = if p == j then executed j + 1 else executed j

-- how many ticks each job has executed before tick t
unfoldable pub executed_before : Node → List Job → ℕ → ℕ → ℕ
executed_before node jobs zero j = 0
executed_before node jobs (suc t) j =
    one_more (pick node jobs (executed_before node jobs t) t) (executed_before node jobs t) j

-- THE TICK RULE: the job that tick t picks
unfoldable pub picked : Node → List Job → ℕ → Option ℕ
picked node jobs t = pick node jobs (executed_before node jobs t) t
