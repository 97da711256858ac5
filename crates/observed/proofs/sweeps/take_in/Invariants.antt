use Rattle.std.proofs.Common.{◌-◌, length}
use Rattle.observed.specs.Sweeps.{IsSwept}
use Rattle.observed.proofs.sweeps.take_in.Given as goal

abbrev pub invariant-loop-place : goal.invariant-loop-place
invariant-loop-place l = IsSwept l.jobs l.time l.live.items l.place

abbrev pub decreases-loop-place : goal.decreases-loop-place
decreases-loop-place l = length l.jobs - l.place
