-- The worst case of a task that passes, as a run: when its job finishes there.
use Rattle.std.specs.Prelude.{◌≡◌, ℕ, ◌+◌, ◌-◌, ◌<◌, ◌≤◌, Some, Option, List, length}
use Rattle.task_sheet.specs.Demand.{blocking_of}
use Rattle.ceiling_kernel.specs.declared.accept.TheConstants.{RELEASE_LIMIT}
use Rattle.ceiling_kernel.specs.declared.trace.Release.{Release}
use Rattle.ceiling_kernel.specs.Tick.{Node}
use Rattle.ceiling_kernel.specs.Trace.{finish_before}
use Rattle.ceiling_kernel.specs.Readings.{IsFinishAt}
use Rattle.ceiling_kernel.specs.Bounds.{above_of, after_of, work_of, CoversBy}
use Rattle.ceiling_kernel.specs.Releases.{jobs_of, ready_of, release_at}
use Rattle.miss.specs.declared.reaching.Reached.{Reached}
use Rattle.miss.specs.declared.reaching.Reached.TheVariants as reached
use Rattle.miss.specs.declared.reaching.WorstRun.{WorstRun}
use Rattle.miss.specs.Exact.{EndsLow}
use Rattle.miss.specs.Misses.{IsRunOf, IsWorstCase}
use Rattle.miss.specs.Shown.{AboveAllPass, IsTooLong, IsStopped}

-- r is the least time that covers the work of task i, of the section that blocks all but its first tick
pub record IsLeastCover (node : Node) (i r : ℕ) : Type 0 where
  pub covers : CoversBy node i r
  pub least : (u : ℕ) → 0 < u → u < r
      → u < work_of node i (blocking_of node.tasks i (above_of node i) - 1) u

-- THE BOUND IS REACHED, but for a tick: below tasks that pass, a job of a task whose last tick is executed at its own level
-- finishes in its worst case exactly so long after it is ready
abbrev pub WorstCaseReaches : Node → Type 0
WorstCaseReaches node =
    (i : ℕ) (rs : List Release) (until r : ℕ) → i < length node.tasks
    → IsWorstCase node.tasks i (after_of node.order i) rs until → length rs ≤ RELEASE_LIMIT
    → AboveAllPass node i → EndsLow node i → IsLeastCover node i r
    → (j : ℕ) × IsRunOf node rs until i j
    × IsFinishAt node (jobs_of node.tasks rs) j (ready_of (release_at rs j) + r)

-- a job of the task in a run, and when it finishes there, if it does
pub record IsFinishIn (node : Node) (rs : List Release) (until task j : ℕ) (finish : Option ℕ)
    : Type 0 where
  pub ran : IsRunOf node rs until task j
  pub finish_is : finish ≡ finish_before node (jobs_of node.tasks rs) until j

-- the worst case of a task, run to its end: its job, and when that finishes, if it does. Below tasks that pass, one that ends
-- low finishes exactly at the least time that covers its work after it is ready.
pub record IsWorstRun (node : Node) (task : ℕ) (run : WorstRun) : Type 0 where
  pub case : IsWorstCase node.tasks task (after_of node.order task) run.releases.items run.until
  pub few : length run.releases.items ≤ RELEASE_LIMIT
  pub finish : IsFinishIn node run.releases.items run.until task run.job run.finish
  pub exact : AboveAllPass node task → EndsLow node task → (r : ℕ) → IsLeastCover node task r
      → run.finish ≡ Some (ready_of (release_at run.releases.items run.job) + r)

-- what comes of the worst case of a task: it was run; or it is too long; or it is stopped, and some task above doesn't pass
abbrev pub IsReachedOf : Node → ℕ → Reached → Type 0
IsReachedOf node task (reached.Ran run) = IsWorstRun node task run
IsReachedOf node task reached.TooMany =
    IsTooLong node.tasks task (after_of node.order task)
IsReachedOf node task reached.Stopped = (¬ AboveAllPass node task) × IsStopped node task
