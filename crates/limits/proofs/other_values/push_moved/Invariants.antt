use Rattle.std.proofs.Common.{◌≡◌, ◌++◌, drop}
use Rattle.limits.specs.Numbers.{moved}
use Rattle.limits.proofs.other_values.push_moved.Given as goal

abbrev pub invariant-loop-index : goal.invariant-loop-index
invariant-loop-index l =
    l.others.items ++ moved l.left l.more l.less (drop l.index l.sections)
    ≡ l.fn.others.items ++ moved l.along l.more l.less (drop l.from l.sections)
