use Rattle.std.proofs.Common.{◌≡◌, take}
use Rattle.assignment.specs.Placings.{tasks_of_places}
use Rattle.judge.specs.Judgements.{order_judged}
use Rattle.worst_lines.proofs.text.places_of.Given as goal

abbrev pub invariant-loop-entry : goal.invariant-loop-entry
invariant-loop-entry l = tasks_of_places l.places.items ≡ order_judged (take l.entry-index l.judged)
