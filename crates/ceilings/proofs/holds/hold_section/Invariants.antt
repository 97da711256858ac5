use Rattle.std.proofs.Common.{◌≡◌, max, take, if◌then◌else◌}
use Rattle.std.specs.Ordering.{nat_cmp}
use Rattle.std.specs.FinSet.{FinSet}
use Rattle.ceilings.specs.Table.{some_uses}
use Rattle.ceilings.specs.Holds.{longest_of}
use Rattle.ceilings.proofs.holds.hold_section.Given as goal

abbrev pub invariant-loop-lock : goal.invariant-loop-lock
invariant-loop-lock l = (members : FinSet nat_cmp) → longest_of l.holds.items members
    ≡ max (longest_of l.fn.holds.items members)
    (if some_uses l.users members (take l.lock-index l.lock-items) then l.section.len else 0)
