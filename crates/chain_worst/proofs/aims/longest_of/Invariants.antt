use Rattle.std.proofs.Common.{◌≡◌, max, drop}
use Rattle.task_sheet.proofs.Common.{task_at, greatest_of}
use Rattle.chains.specs.Gaps.{gap_of}
use Rattle.chain_worst.proofs.aims.longest_of.Given as goal

abbrev pub invariant-loop-task : goal.invariant-loop-task
invariant-loop-task l =
    max l.longest (greatest_of (λ i. gap_of (task_at l.set i)) (drop l.task-index l.tasks))
    ≡ greatest_of (λ i. gap_of (task_at l.set i)) l.tasks
