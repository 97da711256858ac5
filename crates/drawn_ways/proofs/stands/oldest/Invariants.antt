use Rattle.std.proofs.Common.{◌≡◌, length, None}
use Rattle.drawn_ways.specs.Stands.{oldest_of}
use Rattle.drawn_ways.proofs.stands.oldest.Given as goal

abbrev pub invariant-loop-output : goal.invariant-loop-output
invariant-loop-output l = oldest_of l.from l.end l.rest l.found ≡ oldest_of l.from l.end l.outputs None

abbrev pub decreases-loop-output : goal.decreases-loop-output
decreases-loop-output l = length l.rest
