use Rattle.std.proofs.Common.{◌≡◌, ◌++◌, length, map}
use Rattle.std.specs.Vec.Iter.{into_iter_items, into_iter_len}
use Rattle.rushes.proofs.teams.passes_of.Given as goal

-- the passes of the teams that were taken are there
abbrev pub invariant-loop-last : goal.invariant-loop-last
invariant-loop-last g l = record {
  counted : length (into_iter_items l.last-iterator) ≡ into_iter_len l.last-iterator;
  rest : l.passes.items ++ map (λ last. last.pass) (into_iter_items l.last-iterator)
      ≡ map (λ last. last.pass) l.fn.teams.items;
}
