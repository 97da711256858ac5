use Rattle.book_lock.proofs.ContentLaws.{same_puts}
use Rattle.book_lock.proofs.content.is_same_change.Goals as goal

pub returns-in-Put-Put : goal.returns-in-Put-Put
returns-in-Put-Put c =
    same_puts c.args.first.now c.args.second.now c.in-Put-Put.sheet c.in-Put-Put.other c.eq.result
    c.in-Put-Put.is-0 c.in-Put-Put.is-1 c.eq.ensures
