-- The run that a chain's bound describes, as a release list.
use Rattle.std.specs.Prelude.{ℕ, zero, suc, nat_lt, if◌then◌else◌, List, [], ◌∷◌, ◌++◌, length}
use Rattle.task_sheet.specs.Sheet.{Task, task_at}
use Rattle.ceiling_kernel.specs.declared.trace.Release.{Release}
use Rattle.release_list.specs.Random.{by_time}
use Rattle.chain_worst.specs.Arrivals.{arrival_at, release_at}
use Rattle.chain_worst.specs.declared.aims.Aim.{Aim}

-- the release of a job that arrives at a time, if that is before the end
abbrev pub if_early : Task → (until : ℕ) → List Aim → (time : ℕ) → List Release
if_early t until aims time = if nat_lt time until then release_at t until aims time ∷ [] else []

-- the first n jobs of a task that arrive before the end; job k arrives at k or later, so that none is missed from n = until on
unfoldable pub jobs_within : Task → (rank until : ℕ) → List Aim → (n : ℕ) → List Release
jobs_within t rank until aims zero = []
jobs_within t rank until aims (suc n) =
    jobs_within t rank until aims n ++ if_early t until aims (arrival_at t rank until aims n)

-- the jobs of the first tasks of a set, task by task
unfoldable pub jobs_by_rank : List Task → (until : ℕ) → List Aim → (n : ℕ) → List Release
jobs_by_rank U until aims zero = []
jobs_by_rank U until aims (suc n) =
    jobs_by_rank U until aims n ++ jobs_within (task_at U n) n until aims until

-- those of all its tasks
abbrev pub all_jobs : List Task → (until : ℕ) → List Aim → List Release
all_jobs U until aims = jobs_by_rank U until aims (length U)

-- THE RUN: by time, and those of one time by rank
abbrev pub built_of : List Task → (until : ℕ) → List Aim → List Release
built_of U until aims = by_time (all_jobs U until aims) until
