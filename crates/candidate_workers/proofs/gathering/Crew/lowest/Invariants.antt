use Rattle.std.proofs.Common.{take}
use Rattle.candidate_workers.specs.Crews.{places_in, IsLowest}
use Rattle.candidate_workers.proofs.gathering.Crew.lowest.Given as goal

abbrev pub invariant-loop-handed : goal.invariant-loop-handed
invariant-loop-handed l = record {
  lowest : IsLowest (places_in (take l.handed-index l.self.handed.items)) l.lowest;
}
