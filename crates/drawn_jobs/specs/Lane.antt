-- The lane of the processor: who executes, whole.
use Rattle.std.specs.Prelude.{ℕ, ◌+◌, ◌-◌, ◌*◌, ◌/◌, ◌%◌, min, max, nat_le, nat_lt, if◌then◌else◌, List, [], ◌∷◌, ◌++◌, flat_map, length, codes, slice_get}
use Rattle.std.specs.Fmt.{decimal}
use Rattle.std.specs.List.{concat}
use Rattle.ceiling_kernel.specs.declared.trace.Slice.{Slice}
use Rattle.frames.specs.declared.rows.TaskRow.{TaskRow}
use Rattle.frames.specs.Frame.{Frame, x_of, sees, frame_end, level_of}
use Rattle.pieces.specs.Pieces.{clipped}
use Rattle.frames.specs.Slices.{ticks_of}
use Rattle.frames.specs.Boxes.{box_path}
use Rattle.ceiling_kernel.specs.declared.trace.JobRecord.{JobRecord}
use Rattle.frames.specs.PictureRows.{on_row, of_job}

-- for how long a slice executes in the window, and what was before: no more than passed until then
abbrev pub busy_with : Frame → ℕ → Slice → ℕ
busy_with f before s = min before s.start + ticks_of (clipped f.from f.to s)

-- the same of some slices
abbrev pub busy_from : Frame → ℕ → List Slice → ℕ
busy_from f before [] = before
busy_from f before (s ∷ slices) = busy_from f (busy_with f before s) slices

-- how much of the window is before the end of the run
abbrev pub seen_for : Frame → ℕ
seen_for f = max (min f.to f.until - f.from) 1

-- for how much of that slices execute, in thousandths
abbrev pub busy_of : Frame → List Slice → ℕ
busy_of f slices = 1000 * min (busy_from f 0 slices) (seen_for f) / seen_for f

-- the lane's name, how busy it is, and its line
abbrev pub lane_head : Frame → List Slice → List ℕ
lane_head f slices =
    concat (codes "<text class=\"n\" x=\"500\" y=\"1460\">processor</text><text x=\"500\" y=\"1580\">busy "
    ∷ decimal (busy_of f slices / 10)
    ∷ codes "." ∷ decimal (busy_of f slices % 10)
    ∷ codes " %</text>\n" ∷ [])

-- its line
abbrev pub lane_line : Frame → List ℕ
lane_line f =
    concat (codes "<path class=\"l\" d=\"M" ∷ decimal f.left ∷ codes " 1570H" ∷ decimal (frame_end f)
    ∷ codes "\"/>\n" ∷ [])

-- where a slice's bar ends in it: however short it is, it has a width
abbrev pub lane_right : Frame → Slice → ℕ
lane_right f s = max (x_of f s.stop) (x_of f s.start + 1)

-- an edge round a bar that has room for it
abbrev pub edge_class : ℕ → List ℕ
edge_class wide = if nat_lt wide 60 then [] else codes " o"

-- the bar of a slice of a row's task
abbrev pub lane_bar : Frame → Slice → TaskRow → List ℕ
lane_bar f s row =
    concat (codes "<path class=\"f" ∷ decimal row.tone ∷ edge_class (lane_right f s - x_of f s.start)
    ∷ codes "\" d=\"" ∷ box_path (x_of f s.start) (lane_right f s) 1350 220
    ∷ codes "\"><title>" ∷ row.sheet.name ∷ codes " executes " ∷ decimal s.start ∷ codes " to "
    ∷ decimal s.stop ∷ codes " us</title></path>\n" ∷ [])

-- a word in the middle of a bar
abbrev pub lane_word : (x right : ℕ) → List ℕ → List ℕ
lane_word x right word =
    concat (codes "<text class=\"u\" x=\"" ∷ decimal ((x + right) / 2) ∷ codes "\" y=\"1498\">" ∷ word
    ∷ codes "</text>\n" ∷ [])

-- how much room a level needs
abbrev pub level_room : ℕ → ℕ
level_room level = if nat_lt level 10 then 106 else 172

-- the task's name where a bar has room for it, else its level, else nothing
abbrev pub lane_label : (x right level : ℕ) → TaskRow → List ℕ
lane_label x right level row =
    if nat_le (66 * length row.sheet.name + 60) (right - x) then lane_word x right row.sheet.name
    else if nat_le (level_room level) (right - x) then lane_word x right (decimal level) else []

-- a slice of a row's task, where it is in the window
abbrev pub lane_text : Frame → Slice → ℕ → TaskRow → List ℕ
lane_text f s k row =
    if sees f s.start s.stop
    then lane_bar f s row ++ lane_label (x_of f s.start) (lane_right f s) (level_of f k) row
    else []

-- a slice in the lane of the processor, of a job
abbrev pub lane_by : Frame → List TaskRow → List JobRecord → Slice → List ℕ
lane_by f rows jobs s =
    of_job (λ job. on_row rows job.name (lane_text f s)) (slice_get jobs s.job)

-- each slice there, by time
abbrev pub lanes_text : Frame → List TaskRow → List JobRecord → List Slice → List ℕ
lanes_text f rows jobs slices =
    flat_map (lane_by f rows jobs) slices
