use Rattle.std.proofs.Common.{◌+◌, ◌-◌, ◌*◌, ◌<◌, ◌≤◌}
use Rattle.loads.specs.Digits.{bottom_of, top_of}
use Rattle.loads.proofs.shares.rounded_up.Given as goal

abbrev pub invariant-loop-number : goal.invariant-loop-number
invariant-loop-number l = record {
  short : l.number ≤ 1000;
  least : l.number * bottom_of l.fraction < top_of l.fraction + bottom_of l.fraction;
}

abbrev pub decreases-loop-number : goal.decreases-loop-number
decreases-loop-number l = 1000 - l.number
