use Rattle.std.proofs.Common.{◌≡◌, ◌≤◌, ◌+◌, ◌++◌, Ok, length, map, vec_len}
use Rattle.std.specs.Prelude.{vec_capacity}
use Rattle.std.specs.Vec.Iter.{into_iter_items, into_iter_len}
use Rattle.rushes.proofs.teams.teams_of.Given as goal

-- the ends that were taken are teams
abbrev pub invariant-loop-ended : goal.invariant-loop-ended
invariant-loop-ended g l = record {
  counted : length (into_iter_items l.ended-iterator) ≡ into_iter_len l.ended-iterator;
  room : vec_len l.teams + into_iter_len l.ended-iterator ≤ vec_capacity l.teams;
  rest : map (λ last. Ok last) l.teams.items ++ into_iter_items l.ended-iterator ≡ l.fn.ends.items;
}
