use Rattle.std.proofs.Common.{◌≡◌, ◌+◌, ◌≤◌, ◌↔◌, drop, map, length}
use Rattle.book_lock.specs.PassFields.{receipt_of}
use Rattle.book_lock.specs.TeamPass.{placed_entries}
use Rattle.book_lock.proofs.closing.agrees.Given as goal

abbrev pub invariant-loop-i : goal.invariant-loop-i
invariant-loop-i l =
    (l.next ≤ length l.receipts)
    × ((map receipt_of (drop l.next l.receipts)
    ≡ placed_entries l.team (l.i + 1) (map (λ e. e.value) (drop l.i l.log)))
    ↔ (map receipt_of l.receipts ≡ placed_entries l.team 1 (map (λ e. e.value) l.log)))
