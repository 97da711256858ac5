use Rattle.std.proofs.Common.{◌≡◌, take}
use Rattle.task_sheet.specs.Indexes.{indexes_of, among}
use Rattle.assignment.specs.Placings.{tasks_of_places}
use Rattle.assignment.proofs.members.members_at.Given as goal

abbrev pub invariant-loop-place : goal.invariant-loop-place
invariant-loop-place l = indexes_of l.members ≡ among (tasks_of_places (take l.place-index
    l.places))
