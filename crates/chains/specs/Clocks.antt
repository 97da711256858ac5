-- Tasks that arrive on one clock.
use Rattle.std.specs.Prelude.{◌≡◌, ℕ, ◌+◌, ◌*◌, ◌<◌, List, [], ◌∷◌, length}
use Rattle.task_sheet.specs.Sheet.{task_at}
use Rattle.ceiling_kernel.specs.Tick.{Node, Job, job_at}
use Rattle.chains.specs.Gaps.{gap_of}

-- a time is that offset or some periods later
abbrev pub IsOnClock : (offset period time : ℕ) → Type 0
IsOnClock offset period time = (m : ℕ) × (time ≡ offset + m * period)

-- the jobs of task i arrive on a clock that began `shift` before the run
abbrev pub KeepsClock : Node → List Job → (shift offset i : ℕ) → Type 0
KeepsClock node jobs shift offset i =
    (j : ℕ) → j < length jobs → (job_at jobs j).task ≡ i
    → IsOnClock offset (gap_of (task_at node.tasks i)) (shift + (job_at jobs j).arrival)

-- those of each task with an offset do
abbrev pub KeepClock : Node → List Job → (shift : ℕ) → (offsets tasks : List ℕ) → Type 0
KeepClock node jobs shift [] tasks = Unit {0}
KeepClock node jobs shift (offset ∷ offsets) [] = Unit {0}
KeepClock node jobs shift (offset ∷ offsets) (i ∷ tasks) =
    KeepsClock node jobs shift offset i × KeepClock node jobs shift offsets tasks
