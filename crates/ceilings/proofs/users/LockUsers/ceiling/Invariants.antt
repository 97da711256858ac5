use Rattle.std.proofs.Common.{◌≡◌, List, take}
use Rattle.task_sheet.proofs.Common.{Task, ceiling_of}
use Rattle.ceilings.specs.IsTableOf.{AreUsersOf}
use Rattle.ceilings.proofs.users.LockUsers.ceiling.Given as goal

abbrev pub invariant-loop-below : goal.invariant-loop-below
invariant-loop-below l = (U : List Task) → AreUsersOf U l.self
    → l.highest ≡ ceiling_of U (take l.below l.order) l.fn.lock
