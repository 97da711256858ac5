use Rattle.std.proofs.Common.{◌≡◌, ◌+◌, ◌<◌, ◌++◌, All, length}
use Rattle.observed.specs.Promises.{promises_from, promises_of}
use Rattle.observed.proofs.promises.promises_of.Given as goal

abbrev pub invariant-loop-place : goal.invariant-loop-place
invariant-loop-place l = record {
  tasks : All (λ p. p.task < length l.set) l.rest;
  count : l.level + length l.rest ≡ length l.places;
  whole : l.promises.items ++ promises_from l.set l.numbers l.level l.rest
      ≡ promises_of l.set l.numbers l.places;
}

abbrev pub decreases-loop-place : goal.decreases-loop-place
decreases-loop-place l = length l.rest
