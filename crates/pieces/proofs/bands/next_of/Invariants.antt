use Rattle.std.proofs.Common.{◌≡◌, ◌-◌, length}
use Rattle.pieces.specs.Bands.{next_from, next_of}
use Rattle.pieces.proofs.bands.next_of.Given as goal

abbrev pub invariant-loop-next : goal.invariant-loop-next
invariant-loop-next l = next_from l.gap l.fn.jobs l.name l.next (length l.fn.jobs - l.next)
    ≡ next_of l.gap l.fn.jobs l.n
