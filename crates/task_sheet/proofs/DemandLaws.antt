-- The demand does not fall with time.
use Rattle.std.proofs.Common.{ℕ, ◌<◌, ◌≤◌, inl, inr, List, length, arith}
use Rattle.std.proofs.lemmas.Bool.{cases_Bool}
use Rattle.task_sheet.proofs.Common.{Task, AllTasks, no_task, task_at, Indexes, demand_of}
use Rattle.task_sheet.proofs.Below.{sum_below-le}
use Rattle.task_sheet.proofs.Releases.{interference-mono}
use Rattle.task_sheet.proofs.ResponseLaws.{DoesNotFall}
use Rattle.task_sheet.proofs.InterruptLaws.{interrupts-mono}
use Rattle.task_sheet.proofs.Exchange.{term}

module _ (U : List Task) (valid : AllTasks U) where
  pub demand-mono : (i : ℕ) (H : Indexes) (t s : ℕ) → t ≤ s → demand_of U i H t ≤ demand_of U i H s
  unfolding demand_of
  demand-mono i H t s le =
      let terms =
      sum_below-le (length U) (term U t H) (term U s H) (λ h lt. elim (cases_Bool (H h)) [
        | inl above ↦ rw above (interference-mono (task_at U h) t s (valid h no_task lt) le)
        | inr below ↦ rw below (omega arith)
      ]) in
      omega (arith, interrupts-mono U valid t s le)

  pub demand_does_not_fall : (i : ℕ) (H : Indexes) → i < length U → DoesNotFall (demand_of U i H)
  unfolding demand_of
  demand_does_not_fall i H lt = record {
    positive = λ t. omega (arith, (valid i no_task lt).cost);
    rises = demand-mono i H;
  }
