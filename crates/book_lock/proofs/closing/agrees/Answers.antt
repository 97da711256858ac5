use Rattle.std.proofs.Common.{◌≡◌, map}
use Rattle.std.proofs.lemmas.List.{drop_all}
use Rattle.book_lock.specs.PassFields.{receipt_of}
use Rattle.book_lock.specs.TeamPass.{placed_entries}
use Rattle.book_lock.proofs.AgreeLaws.{at_end}
use Rattle.book_lock.proofs.closing.agrees.Goals as goal

pub returns : goal.returns
returns c =
    let gone = drop_all c.loop-i.i c.args.log.now c.loop-i-test.false in
    at_end receipt_of c.args.receipts.now c.loop-i.next (map receipt_of c.args.receipts.now
    ≡ placed_entries c.args.team 1 (map (λ e. e.value) c.args.log.now)) c.loop-i.invariant.0
    (rw gone at c.loop-i.invariant.1)
