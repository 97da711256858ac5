use Rattle.std.proofs.Common.{◌≡◌, drop}
use Rattle.ceiling_kernel.specs.States.{next_change}
use Rattle.ceiling_kernel.proofs.run.next_change.Given as goal

abbrev pub invariant-loop-section : goal.invariant-loop-section
invariant-loop-section l = next_change (drop l.section-index l.sections) l.executed l.limit
    ≡ next_change l.sections l.executed l.limit
