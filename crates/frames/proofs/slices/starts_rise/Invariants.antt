use Rattle.std.proofs.Common.{◌≡◌, drop}
use Rattle.frames.specs.Slices.{rises}
use Rattle.frames.proofs.slices.starts_rise.Given as goal

abbrev pub invariant-loop-slice : goal.invariant-loop-slice
invariant-loop-slice l = rises l.before (drop l.slice-index l.slices) ≡ rises 0 l.fn.slices
