-- Where the jobs of a way lie in the picture.
use Rattle.std.specs.Prelude.{ℕ, List, [], ◌∷◌, slice_get, Option, Some, None}
use Rattle.std.specs.Option.{option_map, option_and_then}
use Rattle.task_sheet.specs.Sheet.{Task}
use Rattle.frames.specs.PictureRows.{spot_named}
use Rattle.frames.specs.declared.rows.Spot.{Spot}
use Rattle.frames.specs.declared.rows.TaskRow.{TaskRow}
use Rattle.drawn_ways.specs.declared.legs.Leg.{Leg}
use Rattle.drawn_ways.specs.declared.stops.Stop.{Stop}

-- a job of a task at a spot
abbrev pub stop_at : Leg → Task → Spot → Stop
stop_at l t s = record { name = t.name; k = s.k; start = l.start; stop = l.stop }

-- the same, where the task's row is shown
abbrev pub stop_of : List Task → List TaskRow → (shown : List ℕ) → Leg → Option Stop
stop_of U rows shown l =
    option_and_then (λ (t : Task). option_map (stop_at l t) (spot_named rows shown t.name))
    (slice_get U l.task)

abbrev pub with_stop : Option Stop → List Stop → List Stop
with_stop None stops = stops
with_stop (Some s) stops = s ∷ stops

-- those of some jobs
abbrev pub stops_of : List Task → List TaskRow → (shown : List ℕ) → List Leg → List Stop
stops_of U rows shown [] = []
stops_of U rows shown (l ∷ ls) = with_stop (stop_of U rows shown l) (stops_of U rows shown ls)
