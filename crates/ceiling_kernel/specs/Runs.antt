-- What a run answers: the trace of the tick rule, the first overrun, or the refusal of the release list; and what the
-- analysis says of it.
use Rattle.std.specs.Prelude.{◌≡◌, ℕ, ◌+◌, ◌<◌, ◌≤◌, Some, None, Result, Ok, Err, List, [], ◌∷◌, length, slice_index_or}
use Rattle.task_sheet.specs.Sheet.{task_at}
use Rattle.ceiling_kernel.specs.declared.trace.Release.{Release}
use Rattle.ceiling_kernel.specs.declared.trace.JobRecord.{JobRecord}
use Rattle.ceiling_kernel.specs.declared.trace.Trace.{Trace}
use Rattle.ceiling_kernel.specs.declared.trace.RunFault.{RunFault}
use Rattle.ceiling_kernel.specs.declared.trace.RunFault.TheVariants as fault
use Rattle.ceiling_kernel.specs.Tick.{Node, Job, job_at}
use Rattle.ceiling_kernel.specs.Trace.{slices_of, finish_before}
use Rattle.ceiling_kernel.specs.Waits.{Overruns, NoOverrun}
use Rattle.ceiling_kernel.specs.Bounds.{PassesBy, CoversBy, response_by}
use Rattle.ceiling_kernel.specs.Releases.{task_number, ready_of, jobs_of, release_at, refusal_of}

-- job k is the first that overruns the one before it: the earliest, then the first in the list
pub record IsFirstOverrun (node : Node) (jobs : List Job) (k : ℕ) : Type 0 where
  pub is_job : k < length jobs
  pub overruns : Overruns node jobs k
  pub earliest : (j : ℕ) → j < length jobs → Overruns node jobs j
      → (job_at jobs k).ready ≤ (job_at jobs j).ready
  pub first : (j : ℕ) → j < k → Overruns node jobs j → (job_at jobs k).ready < (job_at jobs j).ready

-- what is recorded of the job at a place in the ticks below a time: its arrival, and when it finishes
abbrev pub record_of : Node → List Job → ℕ → ℕ → Release → JobRecord
record_of node jobs until j r =
    record { name = r.name; release = r.time; finish = finish_before node jobs until j }

-- stands past the end of a list of records
abbrev pub no_record : JobRecord
no_record = record { name = []; release = 0; finish = None }

-- the records of releases, of which the first stands at a place
abbrev pub records_from : Node → List Job → ℕ → ℕ → List Release → List JobRecord
records_from node jobs until j [] = []
records_from node jobs until j (r ∷ rs) =
    record_of node jobs until j r ∷ records_from node jobs until (j + 1) rs

-- the trace of the tick rule, below `until`
pub record IsTrace (node : Node) (rs : List Release) (until : ℕ) (trace : Trace) : Type 0 where
  pub slices : trace.slices.items ≡ slices_of node (jobs_of node.tasks rs) until
  pub jobs : trace.jobs.items ≡ records_from node (jobs_of node.tasks rs) until 0 rs

-- an overrun of a release with this name, which becomes ready at this time
pub record IsOverrun (node : Node) (rs : List Release) (name : List ℕ) (time : ℕ) : Type 0 where
  pub place : ℕ
  pub first : IsFirstOverrun node (jobs_of node.tasks rs) place
  pub name_is : name ≡ (release_at rs place).name
  pub time_is : time ≡ ready_of (release_at rs place)

-- what a run answers: the trace of the tick rule, the first overrun, or the refusal
abbrev pub Runs : Node → List Release → ℕ → Result Trace RunFault → Type 0
Runs node rs until (Ok trace) =
    (refusal_of node.tasks rs until ≡ None)
    × NoOverrun node (jobs_of node.tasks rs)
    × IsTrace node rs until trace
Runs node rs until (Err fault.OutOfMemory) = Unit {0}
Runs node rs until (Err (fault.Overrun name time)) =
    (refusal_of node.tasks rs until ≡ None) × IsOverrun node rs name time
Runs node rs until (Err e) = refusal_of node.tasks rs until ≡ Some e

-- ---- the bound of the analysis (Audsley et al. 1993)
-- until when a release of a task that passes by t finishes: its arrival, and the response that t gives the task
abbrev pub bound_by : Node → Release → ℕ → ℕ
bound_by node r t = r.time + response_by (task_at node.tasks (task_number node.tasks r)) t

-- each job of a task of which t is such a time, with the bound that t gives within the run, has a finish by then
abbrev pub MeetsBy : (Node → ℕ → ℕ → Type 0) → Node → List Release → ℕ → Trace → Type 0
MeetsBy By node rs until trace =
    (j t : ℕ) → j < length rs → By node (task_number node.tasks (release_at rs j)) t
    → bound_by node (release_at rs j) t ≤ until
    → (f : ℕ)
    × ((slice_index_or trace.jobs.items j no_record).finish ≡ Some f)
    × (f ≤ bound_by node (release_at rs j) t)

-- each job of a task that passes by t
abbrev pub MeetsBounds : Node → List Release → ℕ → Trace → Type 0
MeetsBounds = MeetsBy PassesBy

-- each job of a task whose work t covers, of the section that blocks all but its first tick
abbrev pub MeetsTighterBounds : Node → List Release → ℕ → Trace → Type 0
MeetsTighterBounds = MeetsBy CoversBy

-- a fault that isn't an overrun
abbrev pub IsNoOverrun : RunFault → Type 0
IsNoOverrun (fault.Overrun name time) = ⊥
IsNoOverrun e = Unit {0}
