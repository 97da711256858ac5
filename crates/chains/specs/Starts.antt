-- When a job reads and when it writes. It reads as it begins its first tick, and writes at its finish. Where the tasks of a
-- chain write at their deadlines, it reads as it arrives, and writes a deadline later (logical execution time; Henzinger et al.
-- 2003).
use Rattle.std.specs.Prelude.{◌≡◌, ℕ, ◌+◌, ◌<◌, Some, List, length}
use Rattle.task_sheet.specs.Sheet.{task_at}
use Rattle.ceiling_kernel.specs.Tick.{Node, Job, job_at, executed_before, picked}
use Rattle.ceiling_kernel.specs.Readings.{IsFinishAt}
use Rattle.chains.specs.declared.bounds.Writes.{Writes}
use Rattle.chains.specs.declared.bounds.Writes.TheVariants.{AtFinish, AtDeadline}

-- job j starts at s: it begins its first tick
pub record IsStartAt (node : Node) (jobs : List Job) (j s : ℕ) : Type 0 where
  pub runs : picked node jobs s ≡ Some j
  pub first : executed_before node jobs s j ≡ 0

-- job j reads at s
abbrev pub IsReadAt : Writes → Node → List Job → (j s : ℕ) → Type 0
IsReadAt AtFinish node jobs j s = IsStartAt node jobs j s
IsReadAt AtDeadline node jobs j s = (j < length jobs) × ((job_at jobs j).arrival ≡ s)

-- job j writes at f
abbrev pub IsWrittenAt : Writes → Node → List Job → (j f : ℕ) → Type 0
IsWrittenAt AtFinish node jobs j f = IsFinishAt node jobs j f
IsWrittenAt AtDeadline node jobs j f =
    (j < length jobs)
    × ((job_at jobs j).arrival + (task_at node.tasks (job_at jobs j).task).deadline ≡ f)
