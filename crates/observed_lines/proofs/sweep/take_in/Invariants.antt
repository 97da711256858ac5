use Rattle.std.proofs.Common.{◌≡◌, ◌++◌, length, true}
use Rattle.observed_lines.specs.Sweeps.{Agree, come_from}
use Rattle.observed_lines.proofs.sweep.take_in.Given as goal

abbrev pub invariant-loop-source : goal.invariant-loop-source
invariant-loop-source l = record {
  same : Agree l.time (l.live.items ++ l.left) (l.fn.live.items ++ l.rest);
  order : l.in_order ≡ true → come_from 0 l.left ≡ true;
}

abbrev pub decreases-loop-source : goal.decreases-loop-source
decreases-loop-source l = length l.left
