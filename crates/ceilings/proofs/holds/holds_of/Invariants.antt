use Rattle.std.proofs.Common.{◌≡◌, if◌then◌else◌}
use Rattle.std.specs.Ordering.{nat_cmp}
use Rattle.std.specs.FinSet.{FinSet}
use Rattle.task_sheet.proofs.Common.{task_at, indexes_of, greatest_below, longest_reached}
use Rattle.ceilings.specs.Holds.{longest_held}
use Rattle.ceilings.proofs.holds.holds_of.Given as goal

abbrev pub invariant-loop-index : goal.invariant-loop-index
invariant-loop-index l = (members : FinSet nat_cmp) → longest_held l.tasks.items members
    ≡ greatest_below l.index (λ k. if indexes_of members k then 0 else longest_reached l.set
    (indexes_of members) (task_at l.set k))
