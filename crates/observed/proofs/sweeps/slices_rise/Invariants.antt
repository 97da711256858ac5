use Rattle.std.proofs.Common.{◌≡◌, drop}
use Rattle.observed.specs.Sweeps.{begin_from}
use Rattle.observed.proofs.sweeps.slices_rise.Given as goal

abbrev pub invariant-loop-slice : goal.invariant-loop-slice
invariant-loop-slice l = begin_from l.least (drop l.slice-index l.slices) ≡ begin_from 0 l.slices
