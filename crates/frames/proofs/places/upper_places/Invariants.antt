use Rattle.std.proofs.Common.{◌≡◌, ◌*◌, ◌+◌, length, take}
use Rattle.frames.specs.Places.{upper_places}
use Rattle.frames.proofs.places.upper_places.Given as goal

abbrev pub invariant-loop-rank : goal.invariant-loop-rank
invariant-loop-rank l = record {
  places : l.places.items ≡ upper_places (take l.rank-index l.fn.ranks);
  few : length l.places.items ≡ 2 * l.rank-index + 1;
}
