-- The work of a task: its demand without timers and interrupts.
use Rattle.std.proofs.Common.{◌≡◌, ◌↔◌, ℕ, ◌≤◌, inl, inr, Bool, true, false, Option, Some, None}
use Rattle.std.proofs.Common.{IfSome, is_some, IsTrue, List, length, arith}
use Rattle.std.specs.Prelude.{IfNone}
use Rattle.std.proofs.lemmas.Bool.{cases_Bool, both_ways}
use Rattle.task_sheet.proofs.Common.{Task, AllTasks, no_task, task_at, Indexes, limit_of}
use Rattle.task_sheet.specs.Responses.{Covers}
use Rattle.task_sheet.proofs.Below.{sum_below-le}
use Rattle.task_sheet.proofs.Exchange.{term}
use Rattle.task_sheet.proofs.InterruptLaws.{interrupts-mono}
use Rattle.task_sheet.proofs.Releases.{interference-mono}
use Rattle.response_time.specs.Workload.{work_of, demand_with, IsFirstCover}

-- it does not fall with time
pub work-mono : (U : List Task) → AllTasks U → (i : ℕ) (H : Indexes) (t s : ℕ) → t ≤ s
    → work_of U i H t ≤ work_of U i H s
work-mono U valid i H t s le =
    let terms = sum_below-le (length U) (term U t H) (term U s H) (λ h lt. elim (cases_Bool (H h)) [
      | inl above ↦ rw above (interference-mono (task_at U h) t s (valid h no_task lt) le)
      | inr below ↦ rw below (omega arith)
    ]) in
    omega arith

-- nor do timers and interrupts
pub with-mono : (U : List Task) → AllTasks U → (i : ℕ) (H : Indexes) (interrupted : Bool) (t s : ℕ)
    → t ≤ s → demand_with interrupted U i H t ≤ demand_with interrupted U i H s
with-mono U valid i H true t s le =
    omega (arith, work-mono U valid i H t s le, interrupts-mono U valid t s le)
with-mono U valid i H false t s le = omega (arith, work-mono U valid i H t s le)

-- a window that covers it was found, or there is none
pub covers_told : (U : List Task) (i : ℕ) (H : Indexes) (found : Option ℕ) (b : Bool)
    → b ≡ is_some found → IfSome found (IsFirstCover U i H false)
    → IfNone found (¬ Covers (demand_with false U i H) (limit_of (task_at U i)))
    → IsTrue b ↔ Covers (work_of U i H) (limit_of (task_at U i))
covers_told U i H (Some t) b is some none =
    (λ _. (t, some.positive, some.within, omega (arith, some.covers)), λ _. is)
covers_told U i H None b is some none = (
  λ yes. absurd (both_ways b is yes),
  λ covers. absurd (none (covers.0, covers.1, covers.2, omega (arith, covers.3))),
)
