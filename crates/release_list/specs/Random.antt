-- A random release list that a set allows: ordinary runs, by a fixed rule, so that a seed gives one list everywhere.
use Rattle.std.specs.Prelude.{◌≡◌, ℕ, zero, suc, ◌<◌, ◌⊎◌, ◌+◌, ◌*◌, ◌/◌, ◌%◌, ◌^◌, nat_lt, ◌==◌, if◌then◌else◌, Option, Some, None, List, [], ◌∷◌, ◌++◌, length}
use Rattle.std.specs.List.{filter}
use Rattle.std.specs.Option.{option_or}
use Rattle.task_sheet.specs.Sheet.{Task, task_at}
use Rattle.ceiling_kernel.specs.declared.accept.TheConstants.{HORIZON, RELEASE_LIMIT}
use Rattle.ceiling_kernel.specs.declared.trace.Release.{Release}
use Rattle.ceiling_kernel.specs.declared.trace.RunFault.{RunFault}
use Rattle.ceiling_kernel.specs.declared.trace.RunFault.TheVariants as fault
use Rattle.ceiling_kernel.specs.Waits.{lateness_of}
use Rattle.ceiling_kernel.specs.Releases.{ready_of, release_at, refuse_if}
use Rattle.release_list.specs.Steady.{is_steady, offset_in}
use Rattle.release_list.specs.declared.random_list.Pace.{Pace}
use Rattle.release_list.specs.declared.steady.SteadyTask.{SteadyTask}

-- ---- a generator of words: linear congruential, modulo 2 ^ 64, with the constants of Knuth's MMIX
unfoldable pub word_after : ℕ → ℕ
word_after x = (x * 6364136223846793005 + 1442695040888963407) % 2 ^ 64

-- the word that stands before the first of the task of a rank
abbrev pub word_before : (seed rank : ℕ) → ℕ
word_before seed rank = word_after (word_after ((seed + rank * 2 ^ 32) % 2 ^ 64))

-- what a word draws: a number below a bound, by the word's high half
unfoldable pub drawn : (word below : ℕ) → ℕ
drawn word below = ((word / 2 ^ 32) * below) / 2 ^ 32

-- ---- the jobs of a task, of whose words x stands before the first
-- Of the five words that follow x, the first says how late a job is, within its jitter; the second and the third for how
-- long it executes: for some microseconds up to its cost, or one time of four for all of it; the fourth and the fifth by how
-- much later than a period after it the next arrives: one time of four by less than the spread, else by nothing.
abbrev pub late_after : Task → ℕ → ℕ
late_after t x = drawn (word_after x) (lateness_of t + 1)

abbrev pub runs_after : Task → ℕ → Option ℕ
runs_after t x =
    if drawn (word_after (word_after x)) 4 == 0 then None
    else Some (1 + drawn (word_after (word_after (word_after x))) t.cost)

-- the third of them
abbrev pub third_after : ℕ → ℕ
third_after x = word_after (word_after (word_after x))

-- from one arrival to the next, by the two words that follow the third: a period, and sometimes less than the spread more
abbrev pub gap_after : Task → (spread third : ℕ) → ℕ
gap_after t spread third =
    t.period + (if drawn (word_after third) 4 == 0 then drawn (word_after (word_after third)) spread else 0)

-- when the first job arrives: at its offset, or where that isn't known, in the first period, as a word draws
abbrev pub first_at : Option ℕ → (period word : ℕ) → ℕ
first_at None period word = drawn word period
first_at (Some offset) period word = offset

-- the word before those of job k, from 0; the first word of the task is that of its first arrival
unfoldable pub word_of : (x k : ℕ) → ℕ
word_of x zero = word_after x
word_of x (suc k) = word_after (word_after (third_after (word_of x k)))

-- when job k arrives, each a period after the one before or later
unfoldable pub arrival_at : Task → Pace → (x k : ℕ) → ℕ
arrival_at t pace x zero = first_at pace.offset t.period (word_after x)
arrival_at t pace x (suc k) = arrival_at t pace x k + gap_after t pace.spread (third_after (word_of x k))

-- its release
abbrev pub random_release : Task → Pace → (x k : ℕ) → Release
random_release t pace x k =
    record {
      time = arrival_at t pace x k;
      name = t.name;
      late = late_after t (word_of x k);
      runs = runs_after t (word_of x k);
    }

-- one release, if it is ready before the end
abbrev pub if_ready : (until : ℕ) → Release → List Release
if_ready until r = if nat_lt (ready_of r) until then r ∷ [] else []

-- the first n jobs of a task, without those that are not ready before the end; job k arrives at k or later, so that none is
-- missed from n = until on
unfoldable pub jobs_within : Task → Pace → (x until n : ℕ) → List Release
jobs_within t pace x until zero = []
jobs_within t pace x until (suc n) = jobs_within t pace x until n ++ if_ready until (random_release t pace x n)

-- ---- the list
-- how jobs of the task of a rank come: from its offset on, where that is known, and by less than a period more than a period
-- apart; by none more, where it is one of the steady ones
abbrev pub pace_of : Task → List SteadyTask → (rank : ℕ) → Pace
pace_of t steady rank =
    record { offset = offset_in steady rank; spread = if is_steady steady rank then 0 else t.period }

-- the jobs of the first tasks of a set, task by task
unfoldable pub jobs_by_rank : List Task → List SteadyTask → (until seed n : ℕ) → List Release
jobs_by_rank U steady until seed zero = []
jobs_by_rank U steady until seed (suc n) =
    jobs_by_rank U steady until seed n ++ jobs_within (task_at U n) (pace_of (task_at U n) steady n) (word_before seed n) until until

-- those of all its tasks
abbrev pub all_jobs : List Task → List SteadyTask → (until seed : ℕ) → List Release
all_jobs U steady until seed = jobs_by_rank U steady until seed (length U)

-- of some releases those that arrive before a time, by time; those of one time stay in their order
unfoldable pub by_time : List Release → ℕ → List Release
by_time rs zero = []
by_time rs (suc time) = by_time rs time ++ filter (λ r. r.time == time) rs

-- THE RANDOM LIST up to an end, in which jobs of steady tasks come exactly a period apart, from their offsets on, where these
-- are known: the jobs that are ready before it, by time, and those of one time by rank
abbrev pub random_of : List Task → List SteadyTask → (until seed : ℕ) → List Release
random_of U steady until seed = by_time (all_jobs U steady until seed) until

-- why there is none: the end is past the horizon, or there are more jobs than a run takes
abbrev pub random_refusal : List Task → List SteadyTask → (until seed : ℕ) → Option RunFault
random_refusal U steady until seed =
    option_or (refuse_if (nat_lt HORIZON until) fault.PastHorizon)
    (refuse_if (nat_lt RELEASE_LIMIT (length (all_jobs U steady until seed))) fault.TooMany)

-- ---- the same, by the number of a job
-- job k of the task of a rank
abbrev pub job_of : List Task → List SteadyTask → (seed rank k : ℕ) → Release
job_of U steady seed i k =
    random_release (task_at U i) (pace_of (task_at U i) steady i) (word_before seed i) k

-- a release is job k of the task at an index, and ready before the end
pub record IsRandomJob (U : List Task) (steady : List SteadyTask) (until seed : ℕ) (r : Release) (i k : ℕ) : Type 0 where
  pub in_set : i < length U
  pub is : r ≡ job_of U steady seed i k
  pub before : ready_of r < until

-- the jobs that are ready before the end and no others, by time, and those of one time by rank
pub record IsRandomList (U : List Task) (steady : List SteadyTask) (until seed : ℕ) (rs : List Release) : Type 0 where
  pub sound : (n : ℕ) → n < length rs
      → (i : ℕ) × (k : ℕ) × IsRandomJob U steady until seed (release_at rs n) i k
  pub complete : (i k : ℕ) → i < length U
      → ready_of (job_of U steady seed i k) < until
      → (n : ℕ) × (n < length rs)
      × (release_at rs n ≡ job_of U steady seed i k)
  pub ordered : (m n i h j k : ℕ) → m < n → n < length rs
      → IsRandomJob U steady until seed (release_at rs m) i j
      → IsRandomJob U steady until seed (release_at rs n) h k
      → ((release_at rs m).time < (release_at rs n).time)
      ⊎ (((release_at rs m).time ≡ (release_at rs n).time) × (i < h))
