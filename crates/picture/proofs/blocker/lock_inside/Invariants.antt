use Rattle.std.proofs.Common.{◌≡◌, drop}
use Rattle.picture.specs.Blocking.{lock_inside}
use Rattle.picture.proofs.blocker.lock_inside.Given as goal

abbrev pub invariant-loop-section : goal.invariant-loop-section
invariant-loop-section l =
    lock_inside l.fn.rows l.fn.k l.fn.executed (drop l.section-index l.sections)
    ≡ lock_inside l.fn.rows l.fn.k l.fn.executed l.fn.sections
