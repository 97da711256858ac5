use Rattle.std.proofs.Common.{◌≡◌, drop}
use Rattle.observed.specs.Sweeps.{place_in}
use Rattle.observed.proofs.sweeps.place_in.Given as goal

abbrev pub invariant-loop-standing : goal.invariant-loop-standing
invariant-loop-standing l = place_in l.slice (drop l.standing-index l.live) ≡ place_in l.slice l.live
