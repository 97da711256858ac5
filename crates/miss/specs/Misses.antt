-- Runs in which a job misses its deadline, and where one has to be found.
use Rattle.std.specs.Prelude.{◌≡◌, ℕ, ◌+◌, ◌-◌, ◌<◌, ◌≤◌, max, true, Option, Some, None, List, [], ◌∷◌, ◌++◌, length, map, slice_index_or}
use Rattle.task_sheet.specs.Sheet.{Task, CriticalSection, task_at}
use Rattle.task_sheet.specs.Indexes.{Indexes, among, without_index}
use Rattle.task_sheet.specs.Demand.{greatest_of, blocking_of, IsUninterrupted, limit_of, Passes}
use Rattle.ceiling_kernel.specs.declared.accept.TheConstants.{RELEASE_LIMIT}
use Rattle.ceiling_kernel.specs.declared.trace.Release.{Release}
use Rattle.ceiling_kernel.specs.Tick.{Node, node_in, job_at, executed_before}
use Rattle.ceiling_kernel.specs.Waits.{NoOverrun, lateness_of}
use Rattle.ceiling_kernel.specs.Bounds.{above_of, after_of}
use Rattle.ceiling_kernel.specs.Releases.{task_number, jobs_of, release_at, refusal_of}
use Rattle.task_sheet.specs.Orders.{IsOrder}
use Rattle.explain.specs.Blocking.{BlockerData, IsBlockerOf}
use Rattle.explain.specs.Conflict.{IsLeastConflict}
use Rattle.release_list.specs.declared.stream.Stream.{Stream}
use Rattle.release_list.specs.Streams.{list_of}
use Rattle.release_list.specs.Densest.{stream_of}
use Rattle.miss.specs.Exact.{EndsLow, NoneCovers}

-- ---- a run
-- a kernel takes the releases and runs them to the end; release j is one of the task
pub record IsRunOf (node : Node) (rs : List Release) (until task j : ℕ) : Type 0 where
  pub accepted : refusal_of node.tasks rs until ≡ None
  pub no_overrun : NoOverrun node (jobs_of node.tasks rs)
  pub is_job : j < length rs
  pub of_task : task_number node.tasks (release_at rs j) ≡ task

-- ---- a miss
-- A kernel takes the releases and runs them to the end, which is the deadline of release j, of the task: its job hasn't
-- executed all that it executes then.
pub record IsMissOf (node : Node) (rs : List Release) (until task j : ℕ) : Type 0 where
  pub accepted : refusal_of node.tasks rs until ≡ None
  pub no_overrun : NoOverrun node (jobs_of node.tasks rs)
  pub is_job : j < length rs
  pub of_task : task_number node.tasks (release_at rs j) ≡ task
  pub due : (release_at rs j).time + (task_at node.tasks task).deadline ≡ until
  pub late : executed_before node (jobs_of node.tasks rs) until j
      < (job_at (jobs_of node.tasks rs) j).executes

-- some job of the task misses its deadline
abbrev pub HasMiss : Node → List Release → ℕ → ℕ → Type 0
HasMiss node rs until task = (j : ℕ) × IsMissOf node rs until task j

-- ---- the worst case of a task with those above it
-- the section of a blocker
abbrev pub no_section : CriticalSection
no_section = record { locks = []; at = 0; len = 0 }

abbrev pub section_of : List Task → BlockerData → CriticalSection
section_of U b = slice_index_or (task_at U b.task).sections b.place no_section

-- a blocker is a section of a task of the set
abbrev pub IsInSet : List Task → Option BlockerData → Type 0
IsInSet U None = Unit {0}
IsInSet U (Some b) = (b.task < length U) × (b.place < length (task_at U b.task).sections)

-- how long a blocker executes up to the end of the first tick of its section
abbrev pub lead_of : List Task → Option BlockerData → ℕ
lead_of U None = 0
lead_of U (Some b) = (section_of U b).at + 1

-- the instant at which all members become ready together: no job arrives before time 0
abbrev pub instant_of : List Task → List ℕ → Option BlockerData → ℕ
instant_of U members b = max (greatest_of (λ i. lateness_of (task_at U i)) members) (lead_of U b)

-- the jobs of a member: the first is ready at the instant, as late as it may be
abbrev pub member_stream : List Task → (instant : ℕ) → ℕ → Stream
member_stream U instant i = stream_of instant (task_at U i)

-- one job of the blocker, which has executed the first tick of its section at the instant
abbrev pub blocker_streams : List Task → (instant until : ℕ) → Option BlockerData → List Stream
blocker_streams U instant until None = []
blocker_streams U instant until (Some b) =
    record {
      name = (task_at U b.task).name;
      first = instant - lead_of U (Some b);
      late = 0;
      period = until + (task_at U b.task).period;
    } ∷ []

abbrev pub worst_streams : List Task → List ℕ → Option BlockerData → ℕ → List Stream
worst_streams U members b until =
    map (member_stream U (instant_of U members b)) members
    ++ blocker_streams U (instant_of U members b) until b

-- the worst case of task i with those above it: a run up to the deadline of its job
pub record IsWorstCase (U : List Task) (i : ℕ) (above : List ℕ) (rs : List Release) (until : ℕ) : Type 0 where
  pub blocker : Option BlockerData
  pub blocks : IsBlockerOf U i (among above) blocker
  pub ends : until ≡ instant_of U (i ∷ above) blocker + limit_of (task_at U i)
  pub listed : rs ≡ list_of (worst_streams U (i ∷ above) blocker until) until

-- ---- where there is one
-- No time up to the limit covers what is to be executed for task i, of the section that blocks all but its first tick;
-- the last tick of its job isn't inside a section that raises it; the tasks above pass.
pub record MustMiss (node : Node) (i : ℕ) : Type 0 where
  pub none_covers : NoneCovers node i (blocking_of node.tasks i (above_of node i) - 1)
      (limit_of (task_at node.tasks i))
  pub ends_low : EndsLow node i
  pub above_pass : (h : ℕ) → h < length node.tasks → above_of node i h ≡ true
      → Passes node.tasks h (above_of node h)

-- THE NO IS SHOWN BY A RUN: it misses its deadline in its worst case
abbrev pub WorstCaseMisses : Node → Type 0
WorstCaseMisses node =
    (i : ℕ) (rs : List Release) (until : ℕ) → i < length node.tasks
    → IsWorstCase node.tasks i (after_of node.order i) rs until → length rs ≤ RELEASE_LIMIT
    → MustMiss node i
    → HasMiss node rs until i

-- ---- without locks
-- no task has a section
abbrev pub IsLockFree : List Task → Type 0
IsLockFree U = (k : ℕ) → k < length U → (task_at U k).sections ≡ []

-- each task passes with those above it
abbrev pub AllPass : Node → Type 0
AllPass node =
    (i : ℕ) → i < length node.tasks → Passes node.tasks i (above_of node i)

-- THE ANALYSIS IS EXACT WITHOUT LOCKS, timers and interrupts: where no task must miss its deadline, each passes
abbrev pub NoIsShown : Node → Type 0
NoIsShown node =
    IsLockFree node.tasks → IsUninterrupted node.tasks
    → ((i : ℕ) → i < length node.tasks → ¬ MustMiss node i) → AllPass node

-- a task that misses its deadline in some run doesn't pass
abbrev pub MissesAreRefused : Node → Type 0
MissesAreRefused node =
    (rs : List Release) (until i : ℕ) → HasMiss node rs until i
    → ¬ Passes node.tasks i (above_of node i)

-- ---- of a minimal conflict
-- below the others of a minimal conflict, and above all other tasks, each of its tasks has an order in which those above it
-- pass
abbrev pub ConflictHasOrders : List Task → Type 0
ConflictHasOrders U =
    (C : Indexes) (i : ℕ) → IsLeastConflict U C → C i ≡ true
    → (order : List ℕ) × IsOrder U order × (among (after_of order i) ≡ without_index C i)
    × ((h : ℕ) → without_index C i h ≡ true → Passes U h (above_of (node_in U order) h))
