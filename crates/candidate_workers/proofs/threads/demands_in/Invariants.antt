use Rattle.std.proofs.Common.{◌≡◌, ◌≤◌, ◌*◌}
use Rattle.task_sheet.proofs.Common.{task_at, sum_below}
use Rattle.candidate_workers.specs.Threads.{demands_on}
use Rattle.candidate_workers.proofs.threads.demands_in.Given as goal

abbrev pub invariant-loop-sheet : goal.invariant-loop-sheet
invariant-loop-sheet l = record {
  is : l.demands ≡ sum_below l.sheet-index (λ i. demands_on l.set (task_at l.sheet-items i));
  fits : l.demands ≤ l.sheet-index * 100000000;
}
