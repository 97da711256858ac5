-- What timers and interrupts take, task by task and interrupt by interrupt.
use Rattle.std.proofs.Common.{◌≡◌, ℕ, ◌+◌, ◌≤◌, List, length, refl, arith}
use Rattle.task_sheet.specs.declared.node.Interrupt.{Interrupt}
use Rattle.task_sheet.proofs.Common.{Task, IsInterrupt, task_at, sum_below, interrupt_within}
use Rattle.task_sheet.proofs.Common.{interrupts_of, interrupts_within}
use Rattle.response_time.proofs.Shares.{jobs-fit}

-- stands past the end of a task's interrupts
abbrev pub no_interrupt : Interrupt
no_interrupt = record { period = 0; cost = 0 }

pub interrupt-short : (x : Interrupt) (time : ℕ) → IsInterrupt x → time ≤ 10000000
    → interrupt_within time x ≤ 30000000
interrupt-short x time valid le = jobs-fit x.period x.cost (time + 0)
    (omega (arith, valid.period_from)) valid.cost valid.period_to (omega arith)

-- what those of the first n tasks take
abbrev pub interrupts_first : List Task → ℕ → ℕ → ℕ
interrupts_first U time n = sum_below n (λ k. interrupts_of time (task_at U k))

pub first-whole : (U V : List Task) (time n : ℕ) → V ≡ U → n ≡ length V
    → interrupts_first V time n ≡ interrupts_within U time
unfolding interrupts_within
first-whole U V time n same all = rw (all, same) refl
