use Rattle.std.proofs.Common.{◌≡◌, drop}
use Rattle.trace_text.specs.TraceFaults.{overlap_from, overlap_in}
use Rattle.trace_text.proofs.reading.first_overlap.Given as goal

abbrev pub invariant-loop-slice : goal.invariant-loop-slice
invariant-loop-slice l = overlap_from l.free (drop l.slice-index l.slices) ≡ overlap_in l.slices
