-- The margin: each row's level, tone and name, and how long its jobs take at most.
use Rattle.std.specs.Prelude.{ℕ, ◌+◌, Bool, ◌==◌, if◌then◌else◌, Option, Some, None, List, [], ◌∷◌, ◌++◌, length, codes}
use Rattle.std.specs.Fmt.{decimal}
use Rattle.std.specs.List.{concat}
use Rattle.task_sheet.specs.Demand.{greatest_of}
use Rattle.run_lines.specs.RunLines.{greatest_words}
use Rattle.run_lines.specs.Reached.{done_of, response_of}
use Rattle.ceiling_kernel.specs.declared.trace.JobRecord.{JobRecord}
use Rattle.frames.specs.declared.rows.TaskRow.{TaskRow}
use Rattle.frames.specs.declared.rows.Spot.{Spot}
use Rattle.frames.specs.Frame.{Frame, in_millis, top_of, level_of}
use Rattle.frames.specs.Numbers.{known_text, time_text, unit_text}
use Rattle.drawn_jobs.specs.Misses.{latest_in, missed_in}

-- a row's level, and the tone of its task
abbrev pub level_text : Frame → Spot → TaskRow → List ℕ
level_text f spot row =
    concat (codes "<text class=\"v\" x=\"300\" y=\"" ∷ decimal (top_of spot.k + 230) ∷ codes "\">"
    ∷ decimal (level_of f spot.rank)
    ∷ codes "</text><rect class=\"f" ∷ decimal row.tone ∷ codes "\" x=\"350\" y=\""
    ∷ decimal (top_of spot.k + 130)
    ∷ codes "\" width=\"100\" height=\"100\" rx=\"20\"/>\n" ∷ [])

-- a name is red where a deadline is missed
abbrev pub name_class : (missed : ℕ) → List ℕ
name_class missed = if missed == 0 then codes "n" else codes "n q"

-- the number of a row's thread, where settings say it, and it isn't the row's level
abbrev pub number_words : (level : ℕ) → Option ℕ → List ℕ
number_words level None = []
number_words level (Some number) =
    if number == level then []
    else concat (codes "<tspan class=\"nn\" dx=\"45\">" ∷ decimal number ∷ codes "</tspan>" ∷ [])

-- the name of a row, and the number, with what its jobs came to as its title: how many are done, the greatest response among them, and the
-- row's bound
abbrev pub name_text : (missed : ℕ) → List JobRecord → (k level : ℕ) → TaskRow → List ℕ
name_text missed jobs k level row =
    concat (codes "<text class=\"" ∷ name_class missed ∷ codes "\" x=\"500\" y=\""
    ∷ decimal (top_of k + 230)
    ∷ codes "\"><title>done: " ∷ decimal (length (done_of row.sheet.name jobs))
    ∷ codes ", greatest response: " ∷ [])
    ++ greatest_words (length (done_of row.sheet.name jobs))
    (greatest_of response_of (done_of row.sheet.name jobs))
    ++ concat (codes ", bound: " ∷ known_text row.bound ∷ codes " us</title>" ∷ row.sheet.name
    ∷ number_words level row.number ∷ codes "</text>\n" ∷ [])

-- a bound, if there is one, up to the deadline behind it
abbrev pub bound_words : (millis : Bool) → Option ℕ → List ℕ
bound_words millis None = codes "deadline "
bound_words millis (Some bound) =
    concat (codes "bound " ∷ time_text millis bound ∷ codes " of " ∷ [])

-- the bound and the deadline, in the picture's unit; without a bound the deadline
abbrev pub limits_text : (millis : Bool) → ℕ → TaskRow → List ℕ
limits_text millis k row =
    concat (codes "<text x=\"500\" y=\"" ∷ decimal (top_of k + 355) ∷ codes "\">"
    ∷ bound_words millis row.bound ∷ time_text millis row.sheet.deadline ∷ unit_text millis
    ∷ codes "</text>\n" ∷ [])

-- by how much, where a job is done late
abbrev pub late_words : (millis : Bool) → (late : ℕ) → List ℕ
late_words millis late =
    if late == 0 then []
    else concat (codes ", " ∷ time_text millis late ∷ unit_text millis ∷ codes " late" ∷ [])

-- below them how many deadlines are missed, where some are, and by how much at most
abbrev pub missed_line : (millis : Bool) → (missed late : ℕ) → ℕ → List ℕ
missed_line millis missed late k =
    if missed == 0 then []
    else concat (codes "<text class=\"qn\" x=\"500\" y=\"" ∷ decimal (top_of k + 460) ∷ codes "\">missed: "
    ∷ decimal missed ∷ late_words millis late
    ∷ codes "</text>\n" ∷ [])

-- a row's part of the margin
abbrev pub margin_text : Frame → List JobRecord → Spot → TaskRow → List ℕ
margin_text f jobs spot row =
    level_text f spot row ++ name_text (missed_in f row jobs) jobs spot.k (level_of f spot.rank) row
    ++ limits_text (in_millis f) spot.k row
    ++ missed_line (in_millis f) (missed_in f row jobs) (latest_in row jobs) spot.k
