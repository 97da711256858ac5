use Rattle.std.proofs.Common.{◌≡◌, drop, fold}
use Rattle.ceilings.specs.Table.{with_user}
use Rattle.ceilings.proofs.users.LockUsers.note_section.Given as goal

abbrev pub invariant-loop-lock : goal.invariant-loop-lock
invariant-loop-lock l = fold (with_user l.index) l.self (drop l.lock-index l.lock-items)
    ≡ fold (with_user l.index) l.fn.self l.lock-items
