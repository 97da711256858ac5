-- What a task's demand and its jitter are made of: its cost, its jitter, the section that blocks it longest, the jobs of
-- each task above it, the timers of all tasks, and each interrupt (Audsley et al. 1993; Sha, Rajkumar, Lehoczky 1990;
-- Burns, Wellings).
use Rattle.std.specs.Prelude.{◌≡◌, ℕ, ◌+◌, ◌*◌, List, [], ◌∷◌, ◌++◌, map, sum_by, Option}
use Rattle.task_sheet.specs.declared.node.Interrupt.{Interrupt}
use Rattle.task_sheet.specs.Sheet.{Task, task_at}
use Rattle.task_sheet.specs.Indexes.{Indexes}
use Rattle.task_sheet.specs.Demand.{jobs_within, releases_within, interference_of, interrupt_within}
use Rattle.explain.specs.Blocking.{BlockerData, blocked_by, IsBlockerOf}
use Rattle.explain.specs.declared.parts.Interruption.{Interruption}

-- the jobs of a task above, and what they execute
pub record AboveData : Type 0 where
  pub task : ℕ
  pub jobs : ℕ
  pub time : ℕ

-- the parts of a time, those above in some order
pub record PartsData : Type 0 where
  pub cost : ℕ
  pub jitter : ℕ
  pub blocker : Option BlockerData
  pub above : List AboveData
  pub timers : ℕ
  pub interrupts : List Interruption

-- what the parts come to
abbrev pub total_of : PartsData → ℕ
total_of parts =
    parts.cost + parts.jitter + blocked_by parts.blocker + sum_by (λ a. a.time) parts.above
    + parts.timers + sum_by (λ x. x.time) parts.interrupts

-- the part of task h above, in a window
abbrev pub above_at : List Task → ℕ → ℕ → AboveData
above_at U time h = record {
  task = h;
  jobs = releases_within (task_at U h) time;
  time = interference_of (task_at U h) time;
}

-- what a task's timer takes in a window of whoever executes
abbrev pub timer_within : ℕ → Task → ℕ
timer_within time t = releases_within t time * t.node.release

-- what the timers of all tasks take
abbrev pub timers_within : List Task → ℕ → ℕ
timers_within U time = sum_by (timer_within time) U

-- the interrupts on the accounts of all tasks, by rank
abbrev pub all_interrupts : List Task → List Interrupt
all_interrupts [] = []
all_interrupts (t ∷ U) = t.interrupts ++ all_interrupts U

-- the part of an interrupt, in a window
abbrev pub interruption_at : ℕ → Interrupt → Interruption
interruption_at time x = record {
  jobs = jobs_within x.period 0 time;
  time = interrupt_within time x;
}

-- the parts of what task i demands in a window, with the tasks H above it, which are listed in this order
pub record IsPartsOf (U : List Task) (i : ℕ) (H : Indexes) (order : List ℕ) (time : ℕ) (parts : PartsData) : Type 0 where
  pub cost : parts.cost ≡ (task_at U i).cost
  pub jitter : parts.jitter ≡ (task_at U i).jitter
  pub blocker : IsBlockerOf U i H parts.blocker
  pub above : parts.above ≡ map (above_at U time) order
  pub timers : parts.timers ≡ timers_within U time
  pub interrupts : parts.interrupts ≡ map (interruption_at time) (all_interrupts U)
