-- What a chain asks of its tasks, and its bound (Davare et al. 2007, with a smaller part at each handover).
use Rattle.std.specs.Prelude.{◌≡◌, ◌≢◌, ℕ, ◌+◌, ◌<◌, ◌≤◌, List, [], ◌∷◌, length}
use Rattle.task_sheet.specs.Sheet.{task_at}
use Rattle.ceiling_kernel.specs.Tick.{Node, Job, job_at, executed_before}
use Rattle.chains.specs.Starts.{IsWrittenAt}
use Rattle.chains.specs.Handovers.{RespondsBy, handover}
use Rattle.chains.specs.Paths.{last_task}
use Rattle.chains.specs.Gaps.{gap_of}
use Rattle.chains.specs.declared.bounds.Writes.{Writes}
use Rattle.chains.specs.declared.bounds.Writes.TheVariants.{AtFinish, AtDeadline}

-- the task passes, with that response, and each of its jobs executes something: so it reads and writes
pub record Acts (node : Node) (jobs : List Job) (response : ℕ → ℕ) (i : ℕ) : Type 0 where
  pub responds : RespondsBy node i (response i)
  pub works : (j : ℕ) → j < length jobs → (job_at jobs j).task ≡ i → 0 < (job_at jobs j).executes

-- a job that writes has executed all, where its task passes
abbrev pub WritesAreDone : Writes → Node → List Job → Type 0
WritesAreDone writes node jobs =
    (j f r : ℕ) → RespondsBy node (job_at jobs j).task r → IsWrittenAt writes node jobs j f
    → (job_at jobs j).executes ≤ executed_before node jobs f j

-- each task of a chain does, and is another one than the next
abbrev pub AllAct : Node → List Job → (response : ℕ → ℕ) → (first : ℕ) → (others : List ℕ)
    → Type 0
AllAct node jobs response i [] = Acts node jobs response i
AllAct node jobs response i (c ∷ others) =
    Acts node jobs response i × (i ≢ c) × AllAct node jobs response c others

-- how long after its arrival a job of task i, of response r, has written
abbrev pub written_within : Writes → Node → (i r : ℕ) → ℕ
written_within AtFinish node i r = r
written_within AtDeadline node i r = (task_at node.tasks i).deadline

-- how long after its arrival a job of task c may arrive that is sure to read what it writes
abbrev pub handed_within : Writes → Node → (i c r : ℕ) → ℕ
handed_within AtFinish node i c r = handover node i c r
handed_within AtDeadline node i c r = (task_at node.tasks i).deadline

-- the bound of a chain: all gaps and handovers, and how long the last task takes to write
abbrev pub bound_of : Writes → Node → (response : ℕ → ℕ) → (first : ℕ) → (others : List ℕ) → ℕ
bound_of writes node response i [] =
    gap_of (task_at node.tasks i) + written_within writes node i (response i)
bound_of writes node response i (c ∷ others) =
    gap_of (task_at node.tasks i) + handed_within writes node i c (response i)
    + bound_of writes node response c others

-- less the first gap: how long until a sample, or a later one, is acted on
abbrev pub delay_of : Writes → Node → (response : ℕ → ℕ) → (first : ℕ) → (others : List ℕ) → ℕ
delay_of writes node response i [] = written_within writes node i (response i)
delay_of writes node response i (c ∷ others) =
    handed_within writes node i c (response i) + gap_of (task_at node.tasks c)
    + delay_of writes node response c others

-- less the last gap: how old an output is when it comes
abbrev pub lag_of : Writes → Node → (response : ℕ → ℕ) → (first : ℕ) → (others : List ℕ) → ℕ
lag_of writes node response i [] = written_within writes node i (response i)
lag_of writes node response i (c ∷ others) =
    gap_of (task_at node.tasks i) + handed_within writes node i c (response i)
    + lag_of writes node response c others

-- so they are
pub record PartsAddUp (writes : Writes) (node : Node) (response : ℕ → ℕ) (first : ℕ) (others : List ℕ)
    : Type 0 where
  pub delay : bound_of writes node response first others
      ≡ gap_of (task_at node.tasks first) + delay_of writes node response first others
  pub lag : bound_of writes node response first others
      ≡ lag_of writes node response first others
      + gap_of (task_at node.tasks (last_task first others))
