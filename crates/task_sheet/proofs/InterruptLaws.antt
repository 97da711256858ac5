-- What timers and interrupts take of a window: no less of a longer one, so much at most, and nothing where there are none.
use Rattle.std.proofs.Common.{◌≡◌, ◌↔◌, ℕ, ◌+◌, ◌*◌, ◌≤◌, false, List, [], ◌∷◌, length, sum_by}
use Rattle.std.proofs.Common.{nat_lt, refl, arith}
use Rattle.std.proofs.lemmas.Bool.{both_ways, false_from_ne_true, or_parts}
use Rattle.std.proofs.lemmas.Bool.Decides.{nat_tests}
use Rattle.std.proofs.lemmas.List.Elements.{All-from_get_or}
use Rattle.std.proofs.lemmas.List.Folds.{list_any_at, list_any_none}
use Rattle.std.proofs.lemmas.List.Sums.{sum_by-le, sum_by-le-sum_by}
use Rattle.std.proofs.Math.Nat.{mul-le-mul_right, mul-zero}
use Rattle.task_sheet.specs.declared.node.Interrupt.{Interrupt}
use Rattle.task_sheet.proofs.Common.{Task, AllTasks, IsInterrupt, IsValidSheet, no_task, task_at}
use Rattle.task_sheet.proofs.Common.{IsTaskSet, Indexes, releases_within, blocking_of}
use Rattle.task_sheet.proofs.Common.{interference_within, interrupt_within, interrupts_of}
use Rattle.task_sheet.proofs.Common.{interrupts_within, demand_of}
use Rattle.task_sheet.specs.Demand.{interrupts_some, has_interrupts, IsUninterrupted}
use Rattle.task_sheet.proofs.Below.{sum_below-le, sum_below-fits}
use Rattle.task_sheet.proofs.Releases.{div_ceil-mono, releases-mono, taken-fits, jobs-fits}
use Rattle.task_sheet.proofs.TaskLaws.{valid_at}

-- ---- a longer window
pub interrupts-mono : (U : List Task) → AllTasks U → (t s : ℕ) → t ≤ s
    → interrupts_within U t ≤ interrupts_within U s
unfolding interrupts_within
interrupts-mono U valid t s le = sum_below-le (length U) (λ k. interrupts_of t (task_at U k))
    (λ k. interrupts_of s (task_at U k)) (λ k lt.
    let x = task_at U k in omega (
      arith,
      mul-le-mul_right x.node.release (releases-mono x t s (valid k no_task lt) le),
      sum_by-le-sum_by (interrupt_within t) (interrupt_within s) x.interrupts
          (λ y. mul-le-mul_right y.cost (div_ceil-mono (t + 0) (s + 0) y.period (omega arith))),
    ))

-- ---- within the longest period
interrupt-fits : (x : Interrupt) (t : ℕ) → IsInterrupt x → t ≤ 10000000
    → interrupt_within t x ≤ 20000000
interrupt-fits x t valid le = omega (
  arith,
  taken-fits (t + 0) x.period x.cost (omega (arith, valid.period_from)) valid.cost,
  valid.period_to,
)

pub interrupts_of-fits : (x : Task) (t : ℕ) → IsValidSheet x → t ≤ 10000000
    → interrupts_of t x ≤ 190000000
interrupts_of-fits x t valid le = omega (
  arith,
  jobs-fits x t x.node.release valid le
      (omega (arith, valid.period_from, valid.overheads.release)),
  sum_by-le (interrupt_within t) 20000000 x.interrupts
      (λ k d lt. interrupt-fits _ t (valid.interrupts.valid k d lt) le),
  valid.interrupts.few,
)

pub interrupts-fits : (U : List Task) → IsTaskSet U → (t : ℕ) → t ≤ 10000000
    → interrupts_within U t ≤ 6080000000
unfolding interrupts_within
interrupts-fits U set t le =
    let each = sum_below-fits (length U) 190000000 (λ k. interrupts_of t (task_at U k))
    (λ k lt. interrupts_of-fits (task_at U k) t (valid_at U k set lt) le) in
    omega (arith, each, set.few)

-- ---- without timers and interrupts
sum-none : (xs : List Interrupt) (t : ℕ) → length xs ≡ 0 → sum_by (interrupt_within t) xs ≡ 0
sum-none [] t none = refl
sum-none (x ∷ xs) t none = absurd (omega (arith, none))

none-of : (x : Task) (t : ℕ) → interrupts_some x ≡ false → interrupts_of t x ≡ 0
none-of x t none =
    let apart = or_parts (nat_lt 0 x.node.release) (nat_lt 0 (length x.interrupts)) none in
    let release : x.node.release ≡ 0 = grind (arith, nat_tests, apart.0) in
    let few : length x.interrupts ≡ 0 = grind (arith, nat_tests, apart.1) in
    let timer : releases_within x t * x.node.release ≡ 0 =
    rw release (mul-zero (releases_within x t)) in
    omega (arith, timer, sum-none x.interrupts t few)

pub interrupts-none : (U : List Task) (t : ℕ) → IsUninterrupted U → interrupts_within U t ≡ 0
unfolding interrupts_within
interrupts-none U t none =
    omega (
      arith,
      sum_below-fits (length U) 0 (λ k. interrupts_of t (task_at U k))
          (λ k lt. omega (arith, none-of (task_at U k) t (none k lt))),
    )

pub demand-plain : (U : List Task) (i : ℕ) (H : Indexes) (t : ℕ) → IsUninterrupted U
    → demand_of U i H t ≡ (task_at U i).cost + blocking_of U i H + interference_within U H t
unfolding demand_of
demand-plain U i H t none = omega (arith, interrupts-none U t none)

-- the test says whether there are some
pub uninterrupted-iff : (U : List Task) → (has_interrupts U ≡ false) ↔ IsUninterrupted U
uninterrupted-iff U = (
  λ none k lt. false_from_ne_true _
      (λ so. both_ways _ none (list_any_at interrupts_some U k no_task lt so)),
  λ each. list_any_none interrupts_some U
      (All-from_get_or (λ x. interrupts_some x ≡ false) U no_task each),
)
