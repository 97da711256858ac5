use Rattle.std.proofs.Common.{◌≡◌, max, drop}
use Rattle.ceiling_kernel.specs.States.{held_top}
use Rattle.ceiling_kernel.proofs.run.held.Given as goal

abbrev pub invariant-loop-section : goal.invariant-loop-section
invariant-loop-section l = max l.best (held_top (drop l.section-index l.sections) l.executed)
    ≡ held_top l.sections l.executed
