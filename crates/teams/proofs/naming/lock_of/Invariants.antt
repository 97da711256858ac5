use Rattle.std.proofs.Common.{◌≡◌, drop}
use Rattle.teams.specs.Naming.{lock_of}
use Rattle.teams.proofs.naming.lock_of.Given as goal

abbrev pub invariant-loop-lock : goal.invariant-loop-lock
invariant-loop-lock l = lock_of (drop l.lock-index l.locks) l.name ≡ lock_of l.locks l.name
