use Rattle.std.proofs.Common.{map}
use Rattle.book_lock.proofs.ForeignLaws.{IsFound}
use Rattle.book_lock.proofs.foreign.foreign_name.Given as goal

abbrev pub invariant-loop-task : goal.invariant-loop-task
invariant-loop-task l = IsFound l.book l.pass (map (λ o. o.now) l.yielded) l.first
