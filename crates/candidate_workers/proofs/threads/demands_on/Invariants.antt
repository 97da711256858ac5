use Rattle.std.proofs.Common.{◌≡◌, ◌≤◌, ◌+◌, ◌*◌}
use Rattle.task_sheet.proofs.Common.{task_at, sum_below}
use Rattle.candidate_workers.specs.Threads.{events_within}
use Rattle.candidate_workers.proofs.threads.demands_on.Given as goal

abbrev pub invariant-loop-sheet : goal.invariant-loop-sheet
invariant-loop-sheet l = record {
  is : l.demands ≡ 2 + sum_below l.sheet-index
      (λ k. events_within l.limit (task_at l.sheet-items k));
  fits : l.demands ≤ 2 + l.sheet-index * 2000000;
}
