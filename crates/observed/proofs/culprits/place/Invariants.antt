use Rattle.std.proofs.Common.{◌≡◌, ◌≤◌, ◌++◌, ◌-◌, drop, length, take}
use Rattle.observed.specs.Culprits.{placed}
use Rattle.observed.proofs.culprits.place.Given as goal

abbrev pub invariant-loop-place : goal.invariant-loop-place
invariant-loop-place l = record {
  within : l.place ≤ length l.culprits.items;
  whole : take l.place l.culprits.items ++ placed l.culprit (drop l.place l.culprits.items)
      ≡ placed l.culprit l.culprits.items;
}

abbrev pub decreases-loop-place : goal.decreases-loop-place
decreases-loop-place l = length l.culprits.items - l.place
