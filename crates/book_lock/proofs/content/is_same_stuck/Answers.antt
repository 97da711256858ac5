use Rattle.book_lock.proofs.ContentLaws.{same_stuck}
use Rattle.book_lock.proofs.content.is_same_stuck.Goals as goal

pub returns : goal.returns
returns c = same_stuck c.args.first.now c.args.second.now c.members.ensures.stuck
    c.members-2.ensures.stuck (rw (c.set.ensures, c.set-2.ensures) at c.is_same.ensures)
