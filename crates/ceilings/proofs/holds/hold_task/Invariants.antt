use Rattle.std.proofs.Common.{◌≡◌, List, take, if◌then◌else◌}
use Rattle.std.specs.Ordering.{nat_cmp}
use Rattle.std.specs.FinSet.{FinSet}
use Rattle.task_sheet.proofs.Common.{Task, indexes_of, reaches, greatest_of}
use Rattle.ceilings.specs.IsTableOf.{AreUsersOf}
use Rattle.ceilings.specs.Holds.{longest_of}
use Rattle.ceilings.proofs.holds.hold_task.Given as goal

abbrev pub invariant-loop-section : goal.invariant-loop-section
invariant-loop-section l = (U : List Task) → AreUsersOf U l.users → (members : FinSet nat_cmp)
    → longest_of l.holds.items members
    ≡ greatest_of (λ s. if reaches U (indexes_of members) s then s.len else 0)
    (take l.section-index l.section-items)
