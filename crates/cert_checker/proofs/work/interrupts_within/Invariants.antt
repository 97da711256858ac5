use Rattle.std.proofs.Common.{◌≡◌, ◌*◌, ◌≤◌}
use Rattle.task_sheet.proofs.Common.{task_at, sum_below, interrupts_of}
use Rattle.cert_checker.proofs.work.interrupts_within.Given as goal

abbrev pub invariant-loop-sheet : goal.invariant-loop-sheet
invariant-loop-sheet l = record {
  total : l.taken ≡ sum_below l.sheet-index (λ k. interrupts_of l.time (task_at l.sheet-items k));
  small : l.taken ≤ l.sheet-index * 190000000;
}
