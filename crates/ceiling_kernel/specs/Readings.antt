-- What the pick, the slices and the finishes of the tick rule are, in their own words.
use Rattle.std.specs.Prelude.{◌≡◌, ◌≢◌, ℕ, ◌-◌, ◌<◌, ◌≤◌, ◌⊎◌, true, false, Option, Some, None, List, [], ◌∷◌, length}
use Rattle.ceiling_kernel.specs.declared.trace.Slice.{Slice}
use Rattle.ceiling_kernel.specs.Tick.{Node, Job, job_at, is_pending, active_of, level_of_job, executed_before, picked}
use Rattle.ceiling_kernel.specs.Trace.{finish_before}

-- job p is pending at tick t, and each pending job has a lower active priority, or the same and no lower own level
pub record IsPicked (node : Node) (jobs : List Job) (t p : ℕ) : Type 0 where
  pub is_job : p < length jobs
  pub pending : is_pending jobs (executed_before node jobs t) t p ≡ true
  pub first : (k : ℕ) → k < length jobs → is_pending jobs (executed_before node jobs t) t k
      ≡ true
      → (active_of node jobs (executed_before node jobs t) k < active_of node jobs
      (executed_before node jobs t) p)
      ⊎ ((active_of node jobs (executed_before node jobs t) k
      ≡ active_of node jobs (executed_before node jobs t) p)
      × (level_of_job node jobs p ≤ level_of_job node jobs k))

-- what the tick rule picks goes first
abbrev pub PicksFirst : Node → List Job → Type 0
PicksFirst node jobs = (t p : ℕ) → picked node jobs t ≡ Some p → IsPicked node jobs t p

-- where the tick rule picks no job, none is pending
abbrev pub IdlesEmpty : Node → List Job → Type 0
IdlesEmpty node jobs =
    (t k : ℕ) → picked node jobs t ≡ None → k < length jobs
    → is_pending jobs (executed_before node jobs t) t k ≡ false

-- The slices of the ticks from `from` up to `until`, by time, are the longest runs of ticks of one job: no tick outside
-- of them picks a job, each tick of a slice picks its job, and the tick after it picks another or none.
abbrev pub AreLongestRuns : (run : ℕ → Option ℕ) → (from until : ℕ) → List Slice → Type 0
AreLongestRuns run from until [] = (t : ℕ) → from ≤ t → t < until → run t ≡ None
AreLongestRuns run from until (s ∷ ss) =
    (from ≤ s.start) × (s.start < s.stop) × (s.stop ≤ until)
    × ((t : ℕ) → from ≤ t → t < s.start → run t ≡ None)
    × ((t : ℕ) → s.start ≤ t → t < s.stop → run t ≡ Some s.job)
    × (s.stop < until → run s.stop ≢ Some s.job)
    × AreLongestRuns run s.stop until ss

-- job j finishes at time f: it executes the last of its ticks in the one before
pub record IsFinishAt (node : Node) (jobs : List Job) (j f : ℕ) : Type 0 where
  pub some : 0 < f
  pub before : executed_before node jobs (f - 1) j < (job_at jobs j).executes
  pub after : (job_at jobs j).executes ≤ executed_before node jobs f j

-- a finish that is known by a time is that of the job, and not after that time
abbrev pub FinishesAreEnds : Node → List Job → Type 0
FinishesAreEnds node jobs =
    (until j f : ℕ) → 0 < (job_at jobs j).executes → finish_before node jobs until j ≡ Some f
    → (f ≤ until) × IsFinishAt node jobs j f

-- a job without a finish by a time lacks some of its ticks then
abbrev pub UnfinishedLack : Node → List Job → Type 0
UnfinishedLack node jobs =
    (until j : ℕ) → 0 < (job_at jobs j).executes → finish_before node jobs until j ≡ None
    → executed_before node jobs until j < (job_at jobs j).executes
