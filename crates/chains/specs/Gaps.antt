-- How far apart the jobs of a task arrive at the most.
use Rattle.std.specs.Prelude.{◌≡◌, ℕ, ◌+◌, ◌<◌, ◌≤◌, List, [], ◌∷◌, length}
use Rattle.task_sheet.specs.Sheet.{Task, task_at}
use Rattle.ceiling_kernel.specs.Tick.{Node, Job, job_at}

-- the word that says how far apart the arrivals of a task may be: the period
abbrev pub gap_of : Task → ℕ
gap_of t = t.period

-- job k is of task i and arrives after job j, at most the task's gap later
pub record Follows (node : Node) (jobs : List Job) (i j k : ℕ) : Type 0 where
  pub is_job : k < length jobs
  pub own : (job_at jobs k).task ≡ i
  pub later : (job_at jobs j).arrival < (job_at jobs k).arrival
  pub in_time : (job_at jobs k).arrival ≤ (job_at jobs j).arrival + gap_of (task_at node.tasks i)

-- the jobs of task i are steady until a time: each is followed whose gap ends before
abbrev pub AreSteady : Node → List Job → (until i : ℕ) → Type 0
AreSteady node jobs until i =
    (j : ℕ) → j < length jobs → (job_at jobs j).task ≡ i
    → (job_at jobs j).arrival + gap_of (task_at node.tasks i) < until
    → (k : ℕ) × Follows node jobs i j k

-- all tasks of a chain but the first are
abbrev pub OthersSteady : Node → List Job → (until first : ℕ) → (others : List ℕ) → Type 0
OthersSteady node jobs until i [] = Unit {0}
OthersSteady node jobs until i (c ∷ others) =
    AreSteady node jobs until c × OthersSteady node jobs until c others

-- all but the last
abbrev pub SendersSteady : Node → List Job → (until first : ℕ) → (others : List ℕ) → Type 0
SendersSteady node jobs until i [] = Unit {0}
SendersSteady node jobs until i (c ∷ others) =
    AreSteady node jobs until i × SendersSteady node jobs until c others
