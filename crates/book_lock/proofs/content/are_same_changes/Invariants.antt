use Rattle.std.proofs.Common.{◌≡◌, take}
use Rattle.book_lock.proofs.content.are_same_changes.Given as goal

abbrev pub invariant-loop-i : goal.invariant-loop-i
invariant-loop-i l = take l.i l.first ≡ take l.i l.second
