use Rattle.std.proofs.Common.{◌≡◌, ◌+◌}
use Rattle.std.specs.Vec.Iter.{into_iter_items}
use Rattle.book_lock.specs.TeamPass.{parts_of, receipt_count}
use Rattle.book_lock.proofs.closing.united.Given as goal

abbrev pub invariant-loop-pass : goal.invariant-loop-pass
invariant-loop-pass g l =
    (l.all.parts + parts_of (into_iter_items l.pass-iterator) ≡ parts_of l.fn.passes.items)
    × (l.all.amount + receipt_count (into_iter_items l.pass-iterator)
    ≡ receipt_count l.fn.passes.items)
