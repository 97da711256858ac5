-- What is shown of a task at its place in an order: its worst case, as a run in which it misses its deadline, or why it is
-- none.
use Rattle.std.specs.Prelude.{◌≡◌, ℕ, ◌+◌, ◌-◌, ◌<◌, ◌≤◌, ◌⊎◌, true, Bool, ◌&&◌, List, length, Option, Some, None}
use Rattle.std.specs.List.{list_any}
use Rattle.task_sheet.specs.Sheet.{Task, task_at}
use Rattle.task_sheet.specs.Indexes.{Indexes}
use Rattle.task_sheet.specs.Locks.{reaches}
use Rattle.task_sheet.specs.Demand.{blocking_of, limit_of, Passes}
use Rattle.task_sheet.specs.Orders.{Stands}
use Rattle.task_sheet.specs.Responses.{Covers}
use Rattle.task_sheet.specs.Verdicts.{IsLeastOver}
use Rattle.ceiling_kernel.specs.declared.accept.TheConstants.{RELEASE_LIMIT}
use Rattle.ceiling_kernel.specs.declared.trace.Release.{Release}
use Rattle.ceiling_kernel.specs.Tick.{Node, job_at, is_inside, executed_before}
use Rattle.ceiling_kernel.specs.Waits.{Overruns}
use Rattle.ceiling_kernel.specs.Releases.{task_number, jobs_of, release_at}
use Rattle.ceiling_kernel.specs.Bounds.{above_of, after_of, work_of, CoversBy}
use Rattle.miss.specs.declared.shown.Miss.{Miss}
use Rattle.miss.specs.declared.shown.Shown.{Shown}
use Rattle.miss.specs.declared.shown.Shown.TheVariants as shown
use Rattle.miss.specs.declared.shown.NoRun.{NoRun}
use Rattle.miss.specs.declared.shown.NoRun.TheVariants as why
use Rattle.miss.specs.declared.worst.Run.{Run}
use Rattle.miss.specs.Exact.{EndsLow}
use Rattle.miss.specs.Misses.{IsRunOf, IsMissOf, IsWorstCase, MustMiss}

-- task i passes in its place
abbrev pub PassesThere : Node → ℕ → Type 0
PassesThere node i = Passes node.tasks i (above_of node i)

-- task i would pass in its place if no timer and no interrupt took anything
abbrev pub PassesUninterrupted : Node → ℕ → Type 0
PassesUninterrupted node i =
    Covers (work_of node i (blocking_of node.tasks i (above_of node i)))
    (limit_of (task_at node.tasks i))

-- a job of task i that executes its cost executes the last tick inside a section that one of the tasks H reaches
abbrev pub ends_inside : List Task → ℕ → Indexes → Bool
ends_inside U i H =
    list_any (λ s. is_inside s ((task_at U i).cost - 1) && reaches U H s) (task_at U i).sections

-- the worst case of task i with those above it has more releases than a run takes
pub record IsTooLong (U : List Task) (i : ℕ) (above : List ℕ) : Type 0 where
  pub releases : List Release
  pub until : ℕ
  pub case : IsWorstCase U i above releases until
  pub many : RELEASE_LIMIT < length releases

-- what there is of the worst case of task i: a run's list, or more releases than a run takes
abbrev pub IsCaseOf : Node → ℕ → Option Run → Type 0
IsCaseOf node i (Some run) =
    IsWorstCase node.tasks i (after_of node.order i) run.releases.items run.until
    × (length run.releases.items ≤ RELEASE_LIMIT)
IsCaseOf node i None = IsTooLong node.tasks i (after_of node.order i)

-- task h is the lowest of those above task i that don't pass
pub record IsLowestFailing (node : Node) (i h : ℕ) : Type 0 where
  pub in_set : h < length node.tasks
  pub above : above_of node i h ≡ true
  pub fails : ¬ PassesThere node h
  pub lowest : (k : ℕ) → k < length node.tasks → above_of node i k ≡ true → above_of node k h ≡ true
      → PassesThere node k

-- each task above task i passes
abbrev pub AboveAllPass : Node → ℕ → Type 0
AboveAllPass node i =
    (h : ℕ) → h < length node.tasks → above_of node i h ≡ true → PassesThere node h

-- the worst case of task i is stopped: a job of a task above overruns the one before it
pub record IsStopped (node : Node) (i : ℕ) : Type 0 where
  pub releases : List Release
  pub until : ℕ
  pub case : IsWorstCase node.tasks i (after_of node.order i) releases until
  pub few : length releases ≤ RELEASE_LIMIT
  pub place : ℕ
  pub is_job : place < length releases
  pub above : above_of node i (task_number node.tasks (release_at releases place)) ≡ true
  pub overruns : Overruns node (jobs_of node.tasks releases) place

-- the worst case of task i is run to its end, the deadline of the task's job, which is done then
pub record IsDoneInTime (node : Node) (i : ℕ) : Type 0 where
  pub releases : List Release
  pub until : ℕ
  pub case : IsWorstCase node.tasks i (after_of node.order i) releases until
  pub few : length releases ≤ RELEASE_LIMIT
  pub job : ℕ
  pub ran : IsRunOf node releases until i job
  pub due : (release_at releases job).time + (task_at node.tasks i).deadline ≡ until
  pub done : (job_at (jobs_of node.tasks releases) job).executes
      ≤ executed_before node (jobs_of node.tasks releases) until job

-- the worst case of task i shows no miss
abbrev pub ShowsNone : Node → ℕ → Type 0
ShowsNone node i = IsStopped node i ⊎ IsDoneInTime node i

-- why the worst case of task i is no run in which it misses its deadline: the first reason of these
abbrev pub IsNoRun : Node → ℕ → NoRun → Type 0
IsNoRun node i (why.MustOutrank other) =
    PassesThere node i × IsLeastOver node.tasks i (above_of node i) other
IsNoRun node i why.TooMany =
    (¬ PassesThere node i) × IsTooLong node.tasks i (after_of node.order i)
IsNoRun node i (why.Below above) =
    (¬ PassesThere node i) × ShowsNone node i × IsLowestFailing node i above
IsNoRun node i why.EndsInside =
    (¬ PassesThere node i) × IsDoneInTime node i × AboveAllPass node i × (¬ EndsLow node i)
IsNoRun node i why.WithinTick =
    (¬ PassesThere node i) × IsDoneInTime node i × AboveAllPass node i × EndsLow node i
    × (¬ PassesUninterrupted node i) × ((t : ℕ) × CoversBy node i t)
IsNoRun node i why.WithinInterrupts =
    (¬ PassesThere node i) × IsDoneInTime node i × AboveAllPass node i × EndsLow node i
    × PassesUninterrupted node i

-- the worst case of task i is a run in which it misses its deadline
pub record IsWorstMiss (node : Node) (i : ℕ) (m : Miss) : Type 0 where
  pub task : m.task ≡ i
  pub case : IsWorstCase node.tasks i (after_of node.order i) m.releases.items m.until
  pub miss : IsMissOf node m.releases.items m.until m.task m.job

-- it may be placed there, or it misses its deadline in its worst case, or why that is no run in which it does
abbrev pub IsShown : Node → ℕ → Shown → Type 0
IsShown node i shown.Stands = Stands node.tasks i (above_of node i)
IsShown node i (shown.Misses m) = IsWorstMiss node i m
IsShown node i (shown.NoRun reason) = IsNoRun node i reason

-- A MISS IS SHOWN: what is shown of a task that must miss its deadline is a run in which it does, or that its worst case is
-- too long
abbrev pub MissesAreShown : Node → Type 0
MissesAreShown node =
    (i : ℕ) (s : Shown) → IsShown node i s → MustMiss node i
    → ((m : Miss) × (s ≡ shown.Misses m)) ⊎ (s ≡ shown.NoRun why.TooMany)
