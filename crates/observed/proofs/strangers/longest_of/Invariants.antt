use Rattle.std.proofs.Common.{◌≡◌, ◌≤◌, drop, length}
use Rattle.observed.specs.Strangers.{longest_of}
use Rattle.observed.proofs.strangers.longest_of.Given as goal

abbrev pub invariant-loop-place : goal.invariant-loop-place
invariant-loop-place l = record {
  within : l.place ≤ length l.names;
  whole : l.longest ≡ longest_of l.from l.to l.pieces (drop l.place l.names);
}

abbrev pub decreases-loop-place : goal.decreases-loop-place
decreases-loop-place l = l.place
