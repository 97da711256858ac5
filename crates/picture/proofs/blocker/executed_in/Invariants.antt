use Rattle.std.proofs.Common.{◌≡◌}
use Rattle.frames.specs.Slices.{executed_in}
use Rattle.picture.proofs.blocker.executed_in.Given as goal

abbrev pub invariant-loop-i : goal.invariant-loop-i
invariant-loop-i l = l.executed ≡ executed_in l.fn.slices l.i l.fn.job
