-- What timers and interrupts take, task by task and interrupt by interrupt, in a time of any length.
use Rattle.std.proofs.Common.{◌≡◌, ℕ, ◌+◌, ◌*◌, ◌<◌, ◌≤◌, List, length, refl, arith}
use Rattle.std.specs.Int.{div_ceil}
use Rattle.std.proofs.Math.Nat.{mul-le-mul_left}
use Rattle.std.proofs.lemmas.Grind.{div_ceil_times}
use Rattle.task_sheet.specs.declared.node.Interrupt.{Interrupt}
use Rattle.task_sheet.proofs.Common.{Task, task_at, sum_below, interrupts_of, interrupts_within}

-- stands past the end of a task's interrupts
abbrev pub no_interrupt : Interrupt
no_interrupt = record { period = 0; cost = 0 }

-- what comes once a period, and takes no longer, takes the time and a period at most
pub jobs-short : (period cost time : ℕ) → 0 < period → cost ≤ period
    → div_ceil time period * cost ≤ time + period
jobs-short period cost time some within = omega (
  arith,
  (div_ceil_times time period some).1,
  mul-le-mul_left (div_ceil time period) within,
)

-- what those of the first n tasks take
abbrev pub interrupts_first : List Task → ℕ → ℕ → ℕ
interrupts_first U time n = sum_below n (λ k. interrupts_of time (task_at U k))

pub first-whole : (U V : List Task) (time n : ℕ) → V ≡ U → n ≡ length V
    → interrupts_first V time n ≡ interrupts_within U time
unfolding interrupts_within
first-whole U V time n same all = rw (all, same) refl
