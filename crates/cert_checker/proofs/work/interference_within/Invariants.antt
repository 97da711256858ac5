use Rattle.std.proofs.Common.{◌≡◌, ◌≤◌, ◌*◌, if◌then◌else◌}
use Rattle.task_sheet.proofs.Common.{task_at, indexes_of, sum_below, interference_of}
use Rattle.cert_checker.proofs.work.interference_within.Given as goal

abbrev pub invariant-loop-h : goal.invariant-loop-h
invariant-loop-h l = record {
  sum : l.taken ≡ sum_below l.h
      (λ h. if indexes_of l.above h then interference_of (task_at l.sheet-items h) l.time else 0);
  small : l.taken ≤ l.h * 30000000;
}
