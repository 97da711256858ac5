use Rattle.std.proofs.Common.{◌≡◌, drop, None}
use Rattle.ceiling_kernel.specs.Lists.{listed, head_of_highest}
use Rattle.ceiling_kernel.proofs.lists.first.Given as goal

abbrev pub invariant-loop-list : goal.invariant-loop-list
invariant-loop-list l = head_of_highest (listed (drop l.list-index l.lists)) l.found
    ≡ head_of_highest (listed l.lists) None
