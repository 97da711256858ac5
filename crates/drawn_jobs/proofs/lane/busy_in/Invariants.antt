use Rattle.std.proofs.Common.{◌≡◌, drop}
use Rattle.drawn_jobs.specs.Lane.{busy_from}
use Rattle.drawn_jobs.proofs.lane.busy_in.Given as goal

abbrev pub invariant-loop-slice : goal.invariant-loop-slice
invariant-loop-slice l =
    busy_from l.fn.frame l.busy (drop l.slice-index l.slices) ≡ busy_from l.fn.frame 0 l.fn.slices
