use Rattle.std.proofs.Common.{◌≡◌, ◌+◌, drop}
use Rattle.diff.specs.Seats.{seat_in}
use Rattle.diff.proofs.seats.seat_in.Given as goal

abbrev pub invariant-loop-below : goal.invariant-loop-below
invariant-loop-below l =
    seat_in 1 l.deadline l.places l.task
    ≡ seat_in (l.below + 1) l.deadline (drop l.below l.places) l.task
