use Rattle.std.proofs.Common.{◌≡◌, ◌++◌, drop, true}
use Rattle.std.specs.Prelude.{map}
use Rattle.observed.specs.Pieces.{job_of}
use Rattle.observed.specs.Sweeps.{IsSwept, begin_from}
use Rattle.observed.proofs.pieces.homes_swept.Given as goal

abbrev pub invariant-loop-slice : goal.invariant-loop-slice
invariant-loop-slice l = record {
  whole : l.homes.items ++ map (job_of l.jobs) (drop l.slice-index l.slices)
      ≡ map (job_of l.jobs) l.slices;
  begins : begin_from l.reached (drop l.slice-index l.slices) ≡ true;
  swept : IsSwept l.jobs l.reached l.live.items l.next;
}
