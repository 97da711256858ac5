use Rattle.std.specs.FinSet as members
use Rattle.kept_order.proofs.ClimbLaws.{IsKeptTo}
use Rattle.kept_order.proofs.climbing.climb.Given as goal

abbrev pub invariant-loop-left : goal.invariant-loop-left
invariant-loop-left l = IsKeptTo l.set l.kept l.left l.places.items

abbrev pub decreases-loop-left : goal.decreases-loop-left
decreases-loop-left l = members.len l.left
