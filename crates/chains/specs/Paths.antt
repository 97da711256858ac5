-- What a job reads, and from which sample an output comes. A chain is its first task and the others, in order; each task's
-- register keeps what was written last. Who reads at the instant of a write reads what was written then.
use Rattle.std.specs.Prelude.{◌≡◌, ℕ, ◌<◌, ◌≤◌, List, [], ◌∷◌, length}
use Rattle.ceiling_kernel.specs.Tick.{Node, Job, job_at}
use Rattle.chains.specs.Starts.{IsReadAt, IsWrittenAt}
use Rattle.chains.specs.declared.bounds.Writes.{Writes}

-- of the jobs of task i that have written by t, job p is the last: its output stands
pub record IsNewest (writes : Writes) (node : Node) (jobs : List Job) (i t p : ℕ) : Type 0 where
  pub is_job : p < length jobs
  pub own : (job_at jobs p).task ≡ i
  pub finish : ℕ
  pub finished : IsWrittenAt writes node jobs p finish
  pub in_time : finish ≤ t
  pub last : (q g : ℕ) → q < length jobs → (job_at jobs q).task ≡ i
      → IsWrittenAt writes node jobs q g
      → g ≤ t
      → g ≤ finish

-- job q of task c reads what job p of task i wrote: of those that have written when q reads, the last
pub record Reads (writes : Writes) (node : Node) (jobs : List Job) (c q i p : ℕ) : Type 0 where
  pub own : (job_at jobs q).task ≡ c
  pub start : ℕ
  pub started : IsReadAt writes node jobs q start
  pub newest : IsNewest writes node jobs i start p

-- the path of a job k of a chain's last task begins with job p of its first: each is read by the next
abbrev pub LeadsTo : Writes → Node → List Job → (first : ℕ) → (others : List ℕ) → (p k : ℕ) → Type 0
LeadsTo writes node jobs i [] p k = p ≡ k
LeadsTo writes node jobs i (c ∷ others) p k =
    (q : ℕ) × Reads writes node jobs c q i p × LeadsTo writes node jobs c others q k

-- the last task of a chain
abbrev pub last_task : (first : ℕ) → (others : List ℕ) → ℕ
last_task i [] = i
last_task i (c ∷ others) = last_task c others

-- the sample of an output k: when the first job of its path reads
pub record IsSampleOf (writes : Writes) (node : Node) (jobs : List Job) (first : ℕ) (others : List ℕ)
    (k s : ℕ)
    : Type 0 where
  pub job : ℕ
  pub started : IsReadAt writes node jobs job s
  pub path : LeadsTo writes node jobs first others job k
