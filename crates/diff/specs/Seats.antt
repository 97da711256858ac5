-- Where a task stands in a placing.
use Rattle.std.specs.Prelude.{ℕ, ◌+◌, ◌-◌, ◌==◌, List, [], ◌∷◌, Option, Some, None, if◌then◌else◌}
use Rattle.task_sheet.specs.Sheet.{Task, task_at}
use Rattle.assignment.specs.Places.{PlaceData}
use Rattle.assignment.specs.declared.placing.Placing.{Placing}
use Rattle.assignment.specs.declared.placing.Placing.TheVariants.{Best, Stuck}
use Rattle.diff.specs.declared.seats.Seat.{Seat}

-- the seat at a level, of a task with this deadline and this response
abbrev pub seat_at : ℕ → ℕ → ℕ → Seat
seat_at level deadline bound = record { level = level; bound = bound; slack = deadline - bound }

-- the seat of a task with this deadline in an order of which the first place has a number
abbrev pub seat_in : ℕ → ℕ → List PlaceData → ℕ → Option Seat
seat_in level deadline [] task = None
seat_in level deadline (place ∷ places) task =
    if place.task == task then Some (seat_at level deadline place.response)
    else seat_in (level + 1) deadline places task

-- the seat of the task at an index in the best order; none where no order passes
abbrev pub seat_of : List Task → Placing → ℕ → Option Seat
seat_of U (Best places) task = seat_in 1 (task_at U task).deadline places.items task
seat_of U (Stuck members) task = None
