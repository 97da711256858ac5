-- The slices of jobs, as bars in the rows of their tasks.
use Rattle.std.specs.Prelude.{ℕ, ◌+◌, ◌-◌, ◌/◌, min, max, Bool, nat_lt, if◌then◌else◌, List, [], ◌∷◌, ◌++◌, length, flat_map, codes, slice_get}
use Rattle.std.specs.Fmt.{decimal}
use Rattle.std.specs.List.{concat}
use Rattle.task_sheet.specs.Sheet.{CriticalSection}
use Rattle.ceiling_kernel.specs.declared.trace.JobRecord.{JobRecord}
use Rattle.ceiling_kernel.specs.declared.trace.Slice.{Slice}
use Rattle.frames.specs.declared.rows.TaskRow.{TaskRow}
use Rattle.frames.specs.declared.rows.Spot.{Spot}
use Rattle.frames.specs.declared.tones.Toned.{Toned}
use Rattle.frames.specs.Frame.{Frame, x_of, sees, right_of, top_of}
use Rattle.frames.specs.PictureRows.{each, on_spot, of_job}
use Rattle.frames.specs.Boxes.{box_path, span_text}
use Rattle.drawn_jobs.specs.Stripes.{stripes_text}
use Rattle.drawn_jobs.specs.Sections.{dark_from, dark_to, fits}
use Rattle.frames.specs.Slices.{slice_at, executed_in}

-- a slice
abbrev pub bar_text : Frame → Slice → ℕ → TaskRow → List ℕ
bar_text f s k row =
    concat (codes "<path class=\"e f" ∷ decimal row.tone ∷ codes "\" d=\""
    ∷ span_text f k s.start s.stop
    ∷ codes "\"><title>" ∷ row.sheet.name ∷ codes " " ∷ decimal s.start ∷ codes " to "
    ∷ decimal s.stop ∷ codes " us</title></path>\n" ∷ [])

-- names, each after one space
abbrev pub names_text : List (List ℕ) → List ℕ
names_text names = flat_map (λ name. codes " " ++ name) names

-- one name stands in the middle of its stripe; several, which would stand across stripes, below the bar
abbrev pub label_class : (several : Bool) → List ℕ
label_class several = if several then codes "m" else codes "k"

-- how far below a row's edge
abbrev pub label_depth : (several : Bool) → ℕ
label_depth several = if several then 450 else 293

-- the names of locks in the middle of a part, where there is room
abbrev pub label_text : (x right k : ℕ) → List (List ℕ) → List ℕ
label_text x right k locks =
    if fits ((right - x) / 68) locks
    then concat (codes "<text class=\"" ∷ label_class (nat_lt 1 (length locks)) ∷ codes "\" x=\""
    ∷ decimal ((x + right) / 2) ∷ codes "\" y=\""
    ∷ decimal (top_of k + label_depth (nat_lt 1 (length locks))) ∷ codes "\">" ∷ names_text locks
    ∷ codes "</text>\n" ∷ [])
    else []

-- where a part of a slice begins, in the slice's bar
abbrev pub part_left : Frame → Slice → (start : ℕ) → ℕ
part_left f s start = min (x_of f start) (right_of f s.start s.stop - 1)

-- and where it ends, in the same: however short it is, it has a width
abbrev pub part_right : Frame → Slice → (start stop : ℕ) → ℕ
part_right f s start stop =
    min (max (x_of f stop) (part_left f s start + 1)) (right_of f s.start s.stop)

-- the box of a part in which a job holds locks
abbrev pub part_box : ℕ → TaskRow → List (List ℕ) → (start stop x right : ℕ) → List ℕ
part_box k row locks start stop x right =
    concat (codes "<path class=\"h\" d=\"" ∷ box_path x right (top_of k + 165) 180
    ∷ codes "\"><title>" ∷ row.sheet.name ∷ codes " holds" ∷ names_text locks ∷ codes " "
    ∷ decimal start ∷ codes " to " ∷ decimal stop ∷ codes " us</title></path>\n" ∷ [])

-- the same with stripes and names, from a place up to another
abbrev pub seen_part : List Toned → ℕ → TaskRow → List (List ℕ) → (start stop x right : ℕ) → List ℕ
seen_part all k row locks start stop x right =
    part_box k row locks start stop x right ++ stripes_text all x right k locks
    ++ label_text x right k locks

-- the same of a slice, where it is in the window
abbrev pub part_text : Frame → List Toned → Slice → ℕ → TaskRow → List (List ℕ) → (start stop : ℕ) → List ℕ
part_text f all s k row locks start stop =
    if sees f start stop
    then seen_part all k row locks start stop (part_left f s start) (part_right f s start stop)
    else []

-- the darker part of a slice for a section, if there is one
abbrev pub dark_text : Frame → List Toned → (e : ℕ) → Slice → ℕ → TaskRow → CriticalSection → List ℕ
dark_text f all e s k row x =
    if nat_lt (dark_from x e) (dark_to x e s)
    then part_text f all s k row x.locks (s.start + dark_from x e) (s.start + dark_to x e s)
    else []

-- a slice and its darker parts, of a job that has executed e ticks before it, where it is in the window
abbrev pub slice_text : Frame → List Toned → (e : ℕ) → Slice → Spot → TaskRow → List ℕ
slice_text f all e s spot row =
    if sees f s.start s.stop
    then bar_text f s spot.k row ++ flat_map (dark_text f all e s spot.k row) row.sheet.sections
    else []

-- a slice in the row of its job's task, of a job that has executed e ticks before it
abbrev pub slice_by : Frame → List Toned → List TaskRow → (shown : List ℕ) → List JobRecord → (e : ℕ) → Slice → List ℕ
slice_by f locks rows shown jobs e s =
    of_job (λ job. on_spot rows shown job.name (slice_text f locks e s)) (slice_get jobs s.job)

-- slice n
abbrev pub slice_in : Frame → List Toned → List TaskRow → (shown : List ℕ) → List JobRecord → List Slice → ℕ → List ℕ
slice_in f locks rows shown jobs slices n =
    slice_by f locks rows shown jobs (executed_in slices n (slice_at slices n).job) (slice_at slices n)

-- each slice, by time
abbrev pub slices_text : Frame → List Toned → List TaskRow → (shown : List ℕ) → List JobRecord → List Slice → List ℕ
slices_text f locks rows shown jobs slices =
    each (length slices) (slice_in f locks rows shown jobs slices)
