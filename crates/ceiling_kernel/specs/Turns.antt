-- In which order the jobs of a run become ready: by time, and those of one time as they stand in the list. Jobs arrive
-- in the order of the list, but a late one may be ready after one that arrives later.
use Rattle.std.specs.Prelude.{◌≡◌, ℕ, ◌<◌, ◌⊎◌, Bool, ◌==◌, List, length, slice_index_or}
use Rattle.task_sheet.specs.Indexes.{some_below}
use Rattle.ceiling_kernel.specs.Tick.{Job, job_at}

-- job j becomes ready before job k, or at the same time and stands before it
abbrev pub ComesBefore : List Job → ℕ → ℕ → Type 0
ComesBefore jobs j k =
    ((job_at jobs j).ready < (job_at jobs k).ready)
    ⊎ (((job_at jobs j).ready ≡ (job_at jobs k).ready) × (j < k))

-- a turn: when a job becomes ready, and its place in the list; this one stands past the end of a list of turns
abbrev pub no_turn : ℕ × ℕ
no_turn = (0, 0)

-- when the job of a turn becomes ready
abbrev pub time_in_turn : List (ℕ × ℕ) → ℕ → ℕ
time_in_turn turns n = (slice_index_or turns n no_turn).0

-- the place of the job of a turn
abbrev pub job_in_turn : List (ℕ × ℕ) → ℕ → ℕ
job_in_turn turns n = (slice_index_or turns n no_turn).1

-- each job has one turn, in that order
pub record AreTurns (jobs : List Job) (turns : List (ℕ × ℕ)) : Type 0 where
  pub known : (n : ℕ) → n < length turns → job_in_turn turns n < length jobs
  pub timed : (n : ℕ) → n < length turns → time_in_turn turns n
      ≡ (job_at jobs (job_in_turn turns n)).ready
  pub ordered : (m n : ℕ) → m < n → n < length turns
      → ComesBefore jobs (job_in_turn turns m) (job_in_turn turns n)
  pub complete : (j : ℕ) → j < length jobs → (n : ℕ) × (n < length turns)
      × (job_in_turn turns n ≡ j)

-- a job has one of the turns below n
abbrev pub has_come : List (ℕ × ℕ) → ℕ → ℕ → Bool
has_come turns n j = some_below n (λ m. job_in_turn turns m == j)

-- of two jobs of one task, the one that arrives first is ready first
abbrev pub TasksKeepOrder : List Job → Type 0
TasksKeepOrder jobs =
    (j k : ℕ) → j < k → k < length jobs → (job_at jobs j).task ≡ (job_at jobs k).task
    → (job_at jobs j).ready < (job_at jobs k).ready
