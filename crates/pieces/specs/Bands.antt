-- Jobs of a task that arrive less than a gap apart, as bands. A job is known by its place in a list, from 0.
use Rattle.std.specs.Prelude.{ℕ, zero, suc, ◌+◌, ◌-◌, Bool, false, not, ◌&&◌, ◌||◌, nat_le, nat_lt, if◌then◌else◌, Option, Some, None, List, length, slice_index_or, slice_range}
use Rattle.std.specs.List.{filter}
use Rattle.task_sheet.specs.Sheet.{same_bytes}
use Rattle.ceiling_kernel.specs.declared.trace.JobRecord.{JobRecord}
use Rattle.ceiling_kernel.specs.Runs.{no_record}

-- the job at a place
abbrev pub job_of : List JobRecord → ℕ → JobRecord
job_of jobs n = slice_index_or jobs n no_record

-- it is one of the task with a name
abbrev pub is_of : List ℕ → JobRecord → Bool
is_of name job = same_bytes job.name name

-- those of some jobs that are
abbrev pub all_of : List ℕ → List JobRecord → List JobRecord
all_of name jobs = filter (is_of name) jobs

-- the last of the first n jobs that is
unfoldable pub last_of : List JobRecord → List ℕ → ℕ → Option JobRecord
last_of jobs name zero = None
last_of jobs name (suc n) =
    if is_of name (job_of jobs n) then Some (job_of jobs n) else last_of jobs name n

-- a job arrives less than a gap behind one before it, if there is one
abbrev pub is_close : (gap : ℕ) → Option JobRecord → JobRecord → Bool
is_close gap None job = false
is_close gap (Some last) job = nat_lt (job.release - last.release) gap

-- job n joins the one before it of its task
abbrev pub joins : (gap : ℕ) → List JobRecord → ℕ → Bool
joins gap jobs n = is_close gap (last_of jobs (job_of jobs n).name n) (job_of jobs n)

-- it is of the task with a name, and doesn't: a band begins with it
abbrev pub begins : (gap : ℕ) → List JobRecord → List ℕ → ℕ → Bool
begins gap jobs name n = is_of name (job_of jobs n) && not (joins gap jobs n)

-- the first of so many places from n on with which one begins, or the place behind them
unfoldable pub next_from : (gap : ℕ) → List JobRecord → List ℕ → (n more : ℕ) → ℕ
next_from gap jobs name n zero = n
next_from gap jobs name n (suc more) =
    if begins gap jobs name n then n else next_from gap jobs name (n + 1) more

-- with which job the next band of job n's task begins, or how many jobs there are
abbrev pub next_of : (gap : ℕ) → List JobRecord → ℕ → ℕ
next_of gap jobs n = next_from gap jobs (job_of jobs n).name (n + 1) (length jobs - (n + 1))

-- all jobs from job n up to there
abbrev pub stretch_of : (gap : ℕ) → List JobRecord → ℕ → List JobRecord
stretch_of gap jobs n = slice_range jobs n (next_of gap jobs n)

-- THE BAND that begins with job n: those of them that are of its task
abbrev pub band_of : (gap : ℕ) → List JobRecord → ℕ → List JobRecord
band_of gap jobs n = all_of (job_of jobs n).name (stretch_of gap jobs n)

-- when a job arrives
abbrev pub arrival_of : JobRecord → ℕ
arrival_of job = job.release

-- job n stands in a band with others, and not alone
abbrev pub is_banded : (gap : ℕ) → List JobRecord → ℕ → Bool
is_banded gap jobs n =
    nat_lt n (length jobs) && (joins gap jobs n || nat_lt 1 (length (band_of gap jobs n)))

-- a place from n on, before another
abbrev pub is_within : (n next j : ℕ) → Bool
is_within n next j = nat_le n j && nat_lt j next

-- job j is one of those of job n's task up to the next that begins a band
abbrev pub is_behind : (gap : ℕ) → List JobRecord → (n j : ℕ) → Bool
is_behind gap jobs n j =
    is_of (job_of jobs n).name (job_of jobs j) && is_within n (next_of gap jobs n) j

-- job n begins a band, and job j is in it
abbrev pub holds_job : (gap : ℕ) → List JobRecord → (n j : ℕ) → Bool
holds_job gap jobs n j = not (joins gap jobs n) && is_behind gap jobs n j
