use Rattle.std.proofs.Common.{◌≡◌, false, ◌&&◌}
use Rattle.task_sheet.proofs.Common.{task_at, indexes_of, some_below, shares_lock}
use Rattle.cert_checker.proofs.work.reaches.Given as goal

abbrev pub invariant-loop-k : goal.invariant-loop-k
invariant-loop-k l = some_below l.k
    (λ k. indexes_of l.members k && shares_lock (task_at l.sheet-items k) l.section) ≡ false
