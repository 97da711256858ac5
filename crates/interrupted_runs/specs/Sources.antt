-- Where timers and interrupts come from, as a set says: a task's timer with each job that becomes ready, an interrupt once in
-- each of its periods at most.
use Rattle.std.specs.Prelude.{◌≡◌, ℕ, ◌+◌, ◌<◌, ◌≤◌, ◌==◌, if◌then◌else◌, List, length, slice_index_or}
use Rattle.task_sheet.specs.declared.node.Interrupt.{Interrupt}
use Rattle.task_sheet.specs.Sheet.{task_at}
use Rattle.task_sheet.specs.Indexes.{sum_below}
use Rattle.ceiling_kernel.specs.Tick.{Node, Job, job_at, job_task}

-- one coming of an interrupt: on whose account, its place there, and when
pub record Coming : Type 0 where
  pub task : ℕ
  pub place : ℕ
  pub time : ℕ

-- stands past the end of a list
abbrev pub no_coming : Coming
no_coming = record { task = 0; place = 0; time = 0 }

abbrev pub coming_at : List Coming → ℕ → Coming
coming_at cs c = slice_index_or cs c no_coming

-- stands past the end of a task's interrupts
abbrev pub no_interrupt : Interrupt
no_interrupt = record { period = 0; cost = 0 }

-- the interrupt at a place on the account of a task
abbrev pub interrupt_on : Node → (task place : ℕ) → Interrupt
interrupt_on node task place = slice_index_or (task_at node.tasks task).interrupts place no_interrupt

-- comings of the interrupts of a node's set, those of one at least its period apart
pub record AreLegalComings (node : Node) (cs : List Coming) : Type 0 where
  pub known : (c : ℕ) → c < length cs → (coming_at cs c).task < length node.tasks
  pub placed : (c : ℕ) → c < length cs
      → (coming_at cs c).place < length (task_at node.tasks (coming_at cs c).task).interrupts
  pub spaced : (c d : ℕ) → c < d → d < length cs → (coming_at cs c).task ≡ (coming_at cs d).task
      → (coming_at cs c).place ≡ (coming_at cs d).place
      → (coming_at cs c).time + (interrupt_on node (coming_at cs d).task (coming_at cs d).place).period
      ≤ (coming_at cs d).time

-- what the timers take that come in a tick, of the jobs that become ready in it
abbrev pub timers_at : Node → List Job → ℕ → ℕ
timers_at node jobs t =
    sum_below (length jobs) (λ j.
    if (job_at jobs j).ready == t then (job_task node jobs j).node.release else 0)

-- and what the interrupts take
abbrev pub interrupts_at : Node → List Coming → ℕ → ℕ
interrupts_at node cs t =
    sum_below (length cs) (λ c.
    if (coming_at cs c).time == t
    then (interrupt_on node (coming_at cs c).task (coming_at cs c).place).cost
    else 0)

-- in no tick comes more than these take
abbrev pub ComeFrom : (comes : ℕ → ℕ) → Node → List Job → List Coming → Type 0
ComeFrom comes node jobs cs = (t : ℕ) → comes t ≤ timers_at node jobs t + interrupts_at node cs t
