-- What the tasks above execute within a window, of the set's first ones.
use Rattle.std.proofs.Common.{◌≡◌, ℕ, ◌+◌, ◌≤◌, Bool, true, false, cond, List, length, refl, sym}
use Rattle.std.proofs.Common.{◌∙◌, add-one, arith}
use Rattle.task_sheet.proofs.Common.{Task, task_at, IsValidSheet, Indexes, sum_below}
use Rattle.task_sheet.proofs.Common.{interference_of, blocking_of, interrupts_within, demand_of}
use Rattle.task_sheet.specs.Demand.{has_interrupts}
use Rattle.task_sheet.proofs.InterruptLaws.{interrupts-none, uninterrupted-iff}
use Rattle.task_sheet.proofs.Releases.{cost-le-interference}
use Rattle.task_sheet.proofs.TaskLaws.{IsTask-from_valid}
use Rattle.response_time.specs.Workload.{work_of, demand_with}

-- of the first n tasks of U those among H
abbrev pub interference_first : List Task → Indexes → ℕ → ℕ → ℕ
interference_first U H time n = sum_below n (λ h. cond (H h) (interference_of (task_at U h) time) 0)

module _ (U : List Task) (H : Indexes) (time n : ℕ) where
  -- one task more, which is above
  pub first-with : H n ≡ true → interference_first U H time (n + 1)
      ≡ interference_first U H time n + interference_of (task_at U n) time
  first-with above = rw (add-one, above) refl

  -- it executes its cost once at least
  pub first-once : IsValidSheet (task_at U n) → H n ≡ true → 1 ≤ time
      → interference_first U H time n + (task_at U n).cost ≤ interference_first U H time (n + 1)
  first-once valid above some = omega (
    arith,
    first-with above,
    cost-le-interference (task_at U n) time (IsTask-from_valid (task_at U n) valid).period some,
  )

  -- one task more, which isn't
  pub first-without : H n ≡ false
      → interference_first U H time (n + 1) ≡ interference_first U H time n
  first-without out = rw (add-one, out) (omega arith)

-- all tasks
pub first-all : (U V : List Task) (i : ℕ) (H : Indexes) (time n : ℕ) → V ≡ U → n ≡ length V
    → (task_at U i).cost + blocking_of U i H + interference_first V H time n ≡ work_of U i H time
first-all U V i H time n same all = rw (all, same) refl

-- a demand is the work, and what timers and interrupts take
pub demand-parts : (U : List Task) (i : ℕ) (H : Indexes) (time : ℕ)
    → demand_of U i H time ≡ work_of U i H time + interrupts_within U time
unfolding demand_of
demand-parts U i H time = refl

-- with those of the set it is the demand
pub with-is : (U : List Task) (i : ℕ) (H : Indexes) (interrupted : Bool) (time : ℕ)
    → interrupted ≡ has_interrupts U → demand_with interrupted U i H time ≡ demand_of U i H time
with-is U i H true time is = sym (demand-parts U i H time)
with-is U i H false time is = omega (
  arith,
  demand-parts U i H time,
  interrupts-none U time ((uninterrupted-iff U).0 (sym is)),
)

-- the next number of a walk is the demand
pub next-is : (U : List Task) (i : ℕ) (H : Indexes) (time next work : ℕ) (interrupted : Bool)
    → next ≡ work + cond interrupted (interrupts_within U time) 0
    → interrupted ≡ has_interrupts U → work ≡ work_of U i H time → next ≡ demand_of U i H time
next-is U i H time next work interrupted is some same =
    is ∙ rw same (with-is U i H interrupted time some)
