use Rattle.std.specs.FinSet as members
use Rattle.assignment.proofs.PlacingLaws.{IsChosenTo}
use Rattle.assignment.proofs.placing.place_all.Given as goal

abbrev pub invariant-loop-left : goal.invariant-loop-left
invariant-loop-left l = IsChosenTo l.set l.left l.places.items

abbrev pub decreases-loop-left : goal.decreases-loop-left
decreases-loop-left l = members.len l.left
