use Rattle.std.proofs.Common.{◌≡◌, ◌++◌, drop}
use Rattle.std.specs.Prelude.{map}
use Rattle.observed.specs.Pieces.{job_of}
use Rattle.observed.proofs.pieces.homes_found.Given as goal

abbrev pub invariant-loop-slice : goal.invariant-loop-slice
invariant-loop-slice l =
    l.homes.items ++ map (job_of l.jobs) (drop l.slice-index l.slices) ≡ map (job_of l.jobs) l.slices
