-- One step of the loops over a set's tasks and sections.
use Rattle.std.proofs.Common.{◌≡◌, ℕ, ◌*◌, ◌<◌, ◌≤◌, true, List, length, ap, ◌∙◌, ◌&&◌, arith}
use Rattle.std.specs.Int.{div_ceil}
use Rattle.std.proofs.lemmas.Bool.{and_from}
use Rattle.std.proofs.lemmas.Grind.{div_ceil_times}
use Rattle.std.proofs.Math.Nat.{mul-le-mul_left}
use Rattle.task_sheet.specs.declared.node.Interrupt.{Interrupt}
use Rattle.task_sheet.proofs.Common.{CriticalSection, Task, IsInterrupt, task_at, Indexes, reaches}
use Rattle.task_sheet.proofs.Common.{shares_lock, releases_within, interference_of}
use Rattle.task_sheet.proofs.Below.{some_below-at}

-- what a task's jobs take
pub interference_from : (x y : Task) (time releases cost : ℕ) → x ≡ y
    → releases ≡ releases_within x time → cost ≡ x.cost → releases * cost ≡ interference_of y time
interference_from x y time releases cost same r k =
    ap (λ n. n * cost) r ∙ ap (λ n. releases_within x time * n) k
    ∙ ap (λ z. interference_of z time) same

-- a section that one of the members reaches
pub reached-at : (U : List Task) (X : Indexes) (s : CriticalSection) (k : ℕ) → k < length U
    → X k ≡ true → shares_lock (task_at U k) s ≡ true → reaches U X s ≡ true
reached-at U X s k lt member shares =
    some_below-at (length U) (λ j. X j && shares_lock (task_at U j) s) k lt
    (and_from (X k) (shares_lock (task_at U k) s) member shares)

-- what an interrupt takes within the longest period
pub comes-fit : (time : ℕ) (x : Interrupt) → IsInterrupt x → time ≤ 10000000
    → div_ceil time x.period * x.cost ≤ 20000000
comes-fit time x valid le =
    let jobs = div_ceil time x.period in
    omega (
      arith,
      (div_ceil_times time x.period (omega (arith, valid.period_from))).1,
      mul-le-mul_left jobs valid.cost,
      valid.period_to,
    )
