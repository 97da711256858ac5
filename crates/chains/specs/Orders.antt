-- In which order the jobs of a task start and finish.
use Rattle.std.specs.Prelude.{◌≡◌, ℕ, ◌<◌, ◌≤◌, List, length}
use Rattle.ceiling_kernel.specs.Tick.{Node, Job, job_at}
use Rattle.ceiling_kernel.specs.Readings.{IsFinishAt}
use Rattle.chains.specs.Starts.{IsStartAt}
use Rattle.chains.specs.Handovers.{RespondsBy}

-- job j starts and finishes before job k, and is finished when that one starts
pub record GoesBefore (node : Node) (jobs : List Job) (j k : ℕ) : Type 0 where
  pub starts : (s t : ℕ) → IsStartAt node jobs j s → IsStartAt node jobs k t → s < t
  pub finishes : (f g : ℕ) → IsFinishAt node jobs j f → IsFinishAt node jobs k g → f < g
  pub apart : (f t : ℕ) → IsFinishAt node jobs j f → IsStartAt node jobs k t → f ≤ t

-- jobs of a task that passes go in the order in which they arrive: what they read and write never goes back
abbrev pub SamplesKeepOrder : Node → List Job → Type 0
SamplesKeepOrder node jobs =
    (j k r : ℕ) → j < k → k < length jobs → (job_at jobs j).task ≡ (job_at jobs k).task
    → RespondsBy node (job_at jobs j).task r
    → GoesBefore node jobs j k
