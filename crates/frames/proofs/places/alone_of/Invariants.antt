use Rattle.std.proofs.Common.{◌≡◌, take}
use Rattle.std.specs.List.{filter}
use Rattle.frames.specs.Places.{is_alone}
use Rattle.frames.proofs.places.alone_of.Given as goal

abbrev pub invariant-loop-rank : goal.invariant-loop-rank
invariant-loop-rank l =
    l.ranks.items ≡ filter (is_alone l.fn.rows l.fn.other l.fn.shown) (take l.rank-index l.fn.rows_shown)
