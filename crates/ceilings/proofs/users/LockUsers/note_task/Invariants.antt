use Rattle.std.proofs.Common.{◌≡◌, drop, fold}
use Rattle.ceilings.specs.Table.{with_section}
use Rattle.ceilings.proofs.users.LockUsers.note_task.Given as goal

abbrev pub invariant-loop-section : goal.invariant-loop-section
invariant-loop-section l = fold (with_section l.index) l.self (drop l.section-index l.section-items)
    ≡ fold (with_section l.index) l.fn.self l.section-items
