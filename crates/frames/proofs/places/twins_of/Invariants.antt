use Rattle.std.proofs.Common.{◌≡◌, take}
use Rattle.std.specs.Prelude.{map}
use Rattle.frames.specs.Places.{twin_of}
use Rattle.frames.proofs.places.twins_of.Given as goal

abbrev pub invariant-loop-rank : goal.invariant-loop-rank
invariant-loop-rank l =
    l.ranks.items ≡ map (twin_of l.fn.rows l.fn.other l.fn.shown) (take l.rank-index l.fn.rows_shown)
