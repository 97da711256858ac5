use Rattle.std.proofs.Common.{◌≡◌, ◌≤◌, ◌∷◌, max, drop}
use Rattle.task_sheet.proofs.Common.{task_at, greatest_of}
use Rattle.ceiling_kernel.specs.Waits.{lateness_of}
use Rattle.miss.proofs.worst.instant_of.Given as goal

abbrev pub invariant-loop-member : goal.invariant-loop-member
invariant-loop-member l =
    (max l.instant (greatest_of (λ i. lateness_of (task_at l.set i)) (drop l.member-index l.above))
    ≡ max (greatest_of (λ i. lateness_of (task_at l.set i)) (l.task ∷ l.above)) l.lead)
    × (l.instant ≤ 10000000)
