use Rattle.std.proofs.Common.{◌≡◌, ◌++◌, drop, map}
use Rattle.chain_runs.specs.Slices.{slice_of}
use Rattle.chain_runs.proofs.slices.slices_of.Given as goal

abbrev pub invariant-loop-slice : goal.invariant-loop-slice
invariant-loop-slice l =
    l.slices.items ++ map (slice_of l.set l.trace.jobs.items) (drop l.slice-index l.trace.slices.items)
    ≡ map (slice_of l.set l.trace.jobs.items) l.trace.slices.items
