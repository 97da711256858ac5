-- The responses of an order (Audsley et al. 1993), as bounds of what happens in a run.
use Rattle.std.specs.Prelude.{◌≡◌, ℕ, ◌+◌, ◌<◌, ◌≤◌, Some, None, Option, List, [], ◌∷◌, length, slice_index_or}
use Rattle.task_sheet.specs.Sheet.{Task}
use Rattle.task_sheet.specs.Demand.{greatest_of}
use Rattle.lines.specs.Naming.{name_at}
use Rattle.assignment.specs.Places.{PlaceData}
use Rattle.ceiling_kernel.specs.Releases.{release_at, task_number}
use Rattle.ceiling_kernel.specs.Runs.{no_record}
use Rattle.ceiling_kernel.specs.declared.trace.JobRecord.{JobRecord}
use Rattle.ceiling_kernel.specs.declared.trace.Release.{Release}
use Rattle.ceiling_kernel.specs.declared.trace.Trace.{Trace}
use Rattle.run_lines.specs.Reached.{done_of, response_of}
use Rattle.run_lines.specs.declared.bounds.TaskBound.{TaskBound}

-- a job of the task of a place whose bound lies in the run, its arrival and the place's response, is done by then
abbrev pub DoneWithin : List Task → PlaceData → List Release → ℕ → Trace → Type 0
DoneWithin U place rs until trace =
    (j : ℕ) → j < length rs → task_number U (release_at rs j) ≡ place.task
    → (release_at rs j).time + place.response ≤ until
    → (f : ℕ)
    × ((slice_index_or trace.jobs.items j no_record).finish ≡ Some f)
    × (f ≤ (release_at rs j).time + place.response)

-- that holds of each place
abbrev pub AllDoneWithin : List Task → List PlaceData → List Release → ℕ → Trace → Type 0
AllDoneWithin U [] rs until trace = Unit {0}
AllDoneWithin U (place ∷ places) rs until trace =
    DoneWithin U place rs until trace × AllDoneWithin U places rs until trace

-- the greatest response of the jobs of each place's task that are done is within the place's response
abbrev pub AllReachWithin : List Task → List JobRecord → List PlaceData → Type 0
AllReachWithin U jobs [] = Unit {0}
AllReachWithin U jobs (place ∷ places) =
    (greatest_of response_of (done_of (name_at U place.task) jobs) ≤ place.response)
    × AllReachWithin U jobs places

-- both of a task that has a bound
abbrev pub IsKeptWithin : List Task → (task : ℕ) → Option ℕ → List Release → ℕ → Trace → Type 0
IsKeptWithin U task None rs until trace = Unit {0}
IsKeptWithin U task (Some bound) rs until trace =
    DoneWithin U (record { task = task; response = bound }) rs until trace
    × (greatest_of response_of (done_of (name_at U task) trace.jobs.items) ≤ bound)

-- that holds of each task
abbrev pub AllKeptWithin : List Task → List TaskBound → List Release → ℕ → Trace → Type 0
AllKeptWithin U [] rs until trace = Unit {0}
AllKeptWithin U (b ∷ bounds) rs until trace =
    IsKeptWithin U b.task b.bound rs until trace × AllKeptWithin U bounds rs until trace
