-- Release lists: their jobs, the reasons to refuse them before anything runs, and what a run answers.
use Rattle.std.specs.Prelude.{◌≡◌, ℕ, zero, suc, ◌+◌, Bool, false, ◌&&◌, ◌||◌, nat_lt, nat_le, ◌==◌, if◌then◌else◌, Option, Some, None, is_none, unwrap_or, List, [], length, map, position, slice_index_or}
use Rattle.std.specs.List.{list_any}
use Rattle.std.specs.Option.{option_or, option_map}
use Rattle.task_sheet.specs.Sheet.{Task, same_bytes, task_at}
use Rattle.task_sheet.specs.Indexes.{some_below}
use Rattle.ceiling_kernel.specs.declared.accept.TheConstants.{HORIZON, RELEASE_LIMIT}
use Rattle.ceiling_kernel.specs.declared.trace.Release.{Release}
use Rattle.ceiling_kernel.specs.declared.trace.RunFault.{RunFault}
use Rattle.ceiling_kernel.specs.declared.trace.RunFault.TheVariants as fault
use Rattle.ceiling_kernel.specs.Tick.{Job, job_at}
use Rattle.ceiling_kernel.specs.Behaviours.{cut_at}
use Rattle.ceiling_kernel.specs.Waits.{lateness_of}

-- ---- the jobs of a release list
-- the index of the task with a name
abbrev pub task_named : List Task → List ℕ → Option ℕ
task_named U name = position (λ t. same_bytes t.name name) U

-- the task of a release; the number of tasks where its name is unknown
abbrev pub task_number : List Task → Release → ℕ
task_number U r = unwrap_or (task_named U r.name) (length U)

-- THE WORD THAT SAYS WHEN A RELEASE IS READY: so many ticks after its arrival as it is late
abbrev pub ready_of : Release → ℕ
ready_of r = r.time + r.late

-- for how many ticks its job executes: as many as it says, else its task's cost
abbrev pub runs_of : List Task → Release → ℕ
runs_of U r = unwrap_or r.runs (task_at U (task_number U r)).cost

-- the job of a release, with the sections of its task's sheet up to its end
abbrev pub job_of : List Task → Release → Job
job_of U r =
    record {
      task = task_number U r;
      arrival = r.time;
      ready = ready_of r;
      executes = runs_of U r;
      sections = cut_at (runs_of U r) (task_at U (task_number U r)).sections;
    }

-- the jobs of a release list, in its order
abbrev pub jobs_of : List Task → List Release → List Job
jobs_of U rs = map (job_of U) rs

-- ---- refusals, each looked for over the whole list; places are counted from 0 here
-- one that was found before, else n where the test passes there
abbrev pub first_or : Option ℕ → Bool → ℕ → Option ℕ
first_or (Some k) found n = Some k
first_or None found n = if found then Some n else None

-- the first number below n that passes the test
unfoldable pub first_where : (ℕ → Bool) → ℕ → Option ℕ
first_where test zero = None
first_where test (suc n) = first_or (first_where test n) (test n) n

-- stands past the end of a list of releases
abbrev pub no_release : Release
no_release = record { time = 0; name = []; late = 0; runs = None }

-- the release at a place, from 0
abbrev pub release_at : List Release → ℕ → Release
release_at rs k = slice_index_or rs k no_release

-- it arrives before the one before it
abbrev pub is_unsorted : List Release → ℕ → Bool
is_unsorted rs zero = false
is_unsorted rs (suc k) = nat_lt (release_at rs (suc k)).time (release_at rs k).time

-- no task has its name
abbrev pub is_unknown : List Task → List Release → ℕ → Bool
is_unknown U rs k = is_none (task_named U (release_at rs k).name)

-- job k arrives less than a period after job j of its task
abbrev pub is_soon_job : List Task → List Job → ℕ → ℕ → Bool
is_soon_job U jobs k j =
    ((job_at jobs j).task == (job_at jobs k).task)
    && nat_lt (job_at jobs k).arrival ((job_at jobs j).arrival + (task_at U
    (job_at jobs k).task).period)

-- it arrives less than a period after a job of its task before it
abbrev pub is_too_soon : List Task → List Job → ℕ → Bool
is_too_soon U jobs k = some_below k (is_soon_job U jobs k)

-- it is later than its task's jobs may be
abbrev pub is_too_late : List Task → List Release → ℕ → Bool
is_too_late U rs k =
    nat_lt (lateness_of (task_at U (task_number U (release_at rs k)))) (release_at rs k).late

-- it executes nothing, or more than its task's cost
abbrev pub is_outside_cost : List Task → List Release → ℕ → Bool
is_outside_cost U rs k =
    (runs_of U (release_at rs k) == 0)
    || nat_lt (task_at U (task_number U (release_at rs k))).cost (runs_of U (release_at rs k))

-- it is ready at the end or after it
abbrev pub is_past : ℕ → Release → Bool
is_past until r = nat_le until (ready_of r)

-- the refusal, where the test passes
abbrev pub refuse_if : Bool → RunFault → Option RunFault
refuse_if test refusal = if test then Some refusal else None

-- the first refusal that holds
abbrev pub refusal_of : List Task → List Release → ℕ → Option RunFault
refusal_of U rs until =
    option_or (option_map (λ k. fault.Unsorted (k + 1)) (first_where (is_unsorted rs) (length rs)))
    (option_or (option_map (λ k. fault.UnknownTask (k + 1))
    (first_where (is_unknown U rs) (length rs)))
    (option_or (option_map (λ k. fault.TooSoon (k + 1))
    (first_where (is_too_soon U (jobs_of U rs)) (length rs)))
    (option_or (option_map (λ k. fault.TooLate (k + 1))
    (first_where (is_too_late U rs) (length rs)))
    (option_or (option_map (λ k. fault.OutsideCost (k + 1))
    (first_where (is_outside_cost U rs) (length rs)))
    (option_or (refuse_if (nat_lt HORIZON until || list_any (is_past until) rs) fault.PastHorizon)
    (refuse_if (nat_lt RELEASE_LIMIT (length rs)) fault.TooMany))))))

-- ---- how they are found
-- a fault is out of memory, or the refusal
abbrev pub IsRefusal : RunFault → Option RunFault → Type 0
IsRefusal fault.OutOfMemory refusal = Unit {0}
IsRefusal e refusal = refusal ≡ Some e

-- a fault is out of memory, or names the first release whose task is unknown
abbrev pub IsUnknown : List Task → List Release → RunFault → Type 0
IsUnknown U rs fault.OutOfMemory = Unit {0}
IsUnknown U rs e =
    (k : ℕ) × (first_where (is_unknown U rs) (length rs) ≡ Some k) × (e ≡ fault.UnknownTask (k + 1))

-- a time comes less than a period after another, if there is one
abbrev pub soon_after : Option ℕ → ℕ → ℕ → Bool
soon_after None time period = false
soon_after (Some before) time period = nat_lt time (before + period)
