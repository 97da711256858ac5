use Rattle.std.proofs.Common.{◌≡◌, ◌-◌}
use Rattle.pieces.specs.Bands.{last_of}
use Rattle.pieces.proofs.bands.last_of.Given as goal

abbrev pub invariant-loop-i : goal.invariant-loop-i
invariant-loop-i l = last_of l.fn.jobs l.name (l.n - l.i) ≡ last_of l.fn.jobs l.name l.n
