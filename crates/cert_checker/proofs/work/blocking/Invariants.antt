use Rattle.std.proofs.Common.{◌≡◌, if◌then◌else◌}
use Rattle.task_sheet.proofs.Common.{task_at, indexes_of, greatest_below, longest_reached}
use Rattle.cert_checker.proofs.work.blocking.Given as goal

abbrev pub invariant-loop-k : goal.invariant-loop-k
invariant-loop-k l = l.longest ≡ greatest_below l.k (λ k. if indexes_of l.members k then 0
    else longest_reached l.set (indexes_of l.members) (task_at l.sheets k))
