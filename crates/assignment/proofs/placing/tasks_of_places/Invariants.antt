use Rattle.std.proofs.Common.{◌≡◌, take}
use Rattle.assignment.specs.Placings.{tasks_of_places}
use Rattle.assignment.proofs.placing.tasks_of_places.Given as goal

abbrev pub invariant-loop-place : goal.invariant-loop-place
invariant-loop-place l = l.order.items ≡ tasks_of_places (take l.place-index l.places)
