use Rattle.std.proofs.Common.{◌≡◌, ◌≤◌, length, take, vec_len, vec_capacity}
use Rattle.assignment.specs.Placings.{places_of}
use Rattle.drafts.proofs.judging.places_of.Given as goal

abbrev pub invariant-loop-level : goal.invariant-loop-level
invariant-loop-level l = record {
  so_far : l.places.items ≡ places_of (take l.level-index l.levels);
  few : vec_len l.places ≤ l.level-index;
  room : length l.levels ≤ vec_capacity l.places;
}
