use Rattle.book_lock.proofs.OwnLaws.{own-goes, known-stays, known-settled}
use Rattle.book_lock.proofs.laws.own_tasks_are_known.Goals as goal

pub returns : goal.returns
returns c = record { changes = own-goes; entered = known-stays; settled = known-settled }
