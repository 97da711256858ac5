-- How great the demands of a valid set are, within the longest period.
use Rattle.std.proofs.Common.{ℕ, ◌<◌, ◌≤◌, List, length, arith}
use Rattle.task_sheet.proofs.Common.{Task, task_at, Indexes, with_index, IsTaskSet, limit_of}
use Rattle.task_sheet.proofs.Common.{longest_reached, blocking_of, interference_of, demand_of}
use Rattle.task_sheet.proofs.Below.{cond-le, greatest_below-le, sum_below-fits}
use Rattle.task_sheet.proofs.Releases.{interference-fits}
use Rattle.task_sheet.proofs.TaskLaws.{IsTask-from_valid, valid_at}
use Rattle.task_sheet.proofs.InterruptLaws.{interrupts-fits}
use Rattle.task_sheet.proofs.Exchange.{term, longest_reached-le-cost}

module _ (U : List Task) (set : IsTaskSet U) where
  pub cost-fits : (k : ℕ) → k < length U → (task_at U k).cost ≤ 10000000
  cost-fits k lt = let valid = valid_at U k set lt in omega (arith, valid.cost_to, valid.period_to)

  pub limit-fits : (k : ℕ) → k < length U → limit_of (task_at U k) ≤ 10000000
  limit-fits k lt = let valid = valid_at U k set lt in
      omega (arith, valid.deadline_to, valid.period_to)

  pub blocking-fits : (i : ℕ) (H : Indexes) → blocking_of U i H ≤ 10000000
  unfolding blocking_of
  blocking-fits i H = greatest_below-le (length U) _ 10000000 (λ k lt.
      let X = with_index H i in
      let longest = longest_reached-le-cost U X (task_at U k)
      (IsTask-from_valid _ (valid_at U k set lt)) in
      cond-le (X k) 0 (longest_reached U X (task_at U k)) 10000000 (omega arith)
      (omega (arith, longest, cost-fits k lt)))

  pub demand-fits : (i : ℕ) (H : Indexes) (t : ℕ) → i < length U → t ≤ 10000000
      → demand_of U i H t ≤ 7060000000
  unfolding demand_of
  demand-fits i H t lt le =
      let each = sum_below-fits (length U) 30000000 (term U t H)
      (λ h lt. cond-le (H h) (interference_of (task_at U h) t) 0 30000000
      (interference-fits (task_at U h) t (valid_at U h set lt) le) (omega arith)) in
      omega (
        arith,
        each,
        set.few,
        cost-fits i lt,
        blocking-fits i H,
        interrupts-fits U set t le,
      )
