-- The document: what stands still, the jobs, the slices by time, and the marks of the releases.
use Rattle.std.specs.Prelude.{ℕ, ◌+◌, ◌-◌, ◌*◌, ◌/◌, Bool, ◌&&◌, ◌==◌, if◌then◌else◌, Option, Some, None, List, [], ◌∷◌, ◌++◌, length, string_bytes, codes}
use Rattle.std.specs.Fmt.{decimal}
use Rattle.std.specs.List.{concat, list_any}
use Rattle.ceiling_kernel.specs.declared.trace.Release.{Release}
use Rattle.ceiling_kernel.specs.declared.trace.JobRecord.{JobRecord}
use Rattle.ceiling_kernel.specs.declared.trace.Slice.{Slice}
use Rattle.ceiling_kernel.specs.declared.trace.Trace.{Trace}
use Rattle.task_sheet.specs.Demand.{interrupts_some}
use Rattle.frames.specs.declared.rows.TaskRow.{TaskRow}
use Rattle.frames.specs.declared.tones.Toned.{Toned}
use Rattle.frames.specs.declared.view.View.{View}
use Rattle.frames.specs.View.{shown_of}
use Rattle.picture.specs.Titles.{letters_behind, title_in, title_tail}
use Rattle.picture.specs.declared.style.TheConstants.{STYLE}
use Rattle.picture.specs.Legend.{legend_text}
use Rattle.frames.specs.Frame.{Frame, frame_of, frame_end, in_millis, step_of, steps_before, top_of}
use Rattle.frames.specs.PictureRows.{at_places, each}
use Rattle.frames.specs.Numbers.{time_text, unit_text}
use Rattle.drawn_jobs.specs.Misses.{all_missed, badge_text, misses_text}
use Rattle.picture.specs.Margin.{margin_text}
use Rattle.frames.specs.Locks.{locks_of}
use Rattle.drawn_jobs.specs.Held.{held_locks}
use Rattle.drawn_jobs.specs.Stripes.{locks_high, locks_group}
use Rattle.picture.specs.WaitTexts.{waits_text}
use Rattle.drawn_jobs.specs.Lane.{lane_head, lane_line, lanes_text}
use Rattle.drawn_jobs.specs.Bands.{jobs_text}
use Rattle.picture.specs.Scale.{tick_text, line_text}
use Rattle.drawn_jobs.specs.Bars.{slices_text}
use Rattle.drawn_jobs.specs.Marks.{all_marks}

-- how wide the picture is
abbrev pub width_of : Frame → ℕ
width_of f = frame_end f + 200

-- how high it is, of so many rows and locks
abbrev pub high_of : Frame → (rows locks : ℕ) → ℕ
high_of f rows locks = top_of rows + 120 + locks_high f locks

-- how wide paper of an A size is across, in millimetres: A3, or A4 [ISO 216]
abbrev pub paper_wide : (size : ℕ) → ℕ
paper_wide size = if size == 3 then 420 else 297

-- how high what is so high is in millimetres, rounded up, where what is so wide is as wide as the paper
abbrev pub paper_high : (size wide high : ℕ) → ℕ
paper_high size wide high = (paper_wide size * high + wide - 1) / wide

-- its width and height, in pixels, of which each has ten units, or on paper in millimetres
abbrev pub size_words : (paper : Option ℕ) → (wide high : ℕ) → List ℕ
size_words None wide high =
    concat (codes " width=\"" ∷ decimal (wide / 10) ∷ codes "\" height=\"" ∷ decimal (high / 10) ∷ [])
size_words (Some size) wide high =
    concat (codes " width=\"" ∷ decimal (paper_wide size) ∷ codes "mm\" height=\""
    ∷ decimal (paper_high size wide high) ∷ codes "mm" ∷ [])

-- the first line, and how wide and high the picture is
abbrev pub size_head : (paper : Option ℕ) → (wide high : ℕ) → List ℕ
size_head paper wide high =
    codes "<?xml version=\"1.0\" encoding=\"UTF-8\"?>\n<svg xmlns=\"http://www.w3.org/2000/svg\" version=\"1.1\""
    ++ size_words paper wide high

-- the first lines, and the title, with what was given behind it
abbrev pub document_head : Frame → List ℕ → (locks shown rows jobs until : ℕ) → List ℕ
document_head f title locks shown rows jobs until =
    size_head f.paper (width_of f) (high_of f shown locks)
    ++ concat (codes "\" viewBox=\"0 0 " ∷ decimal (width_of f) ∷ codes " "
    ∷ decimal (high_of f shown locks)
    ∷ codes "\">\n<title>tasks: " ∷ decimal rows ∷ codes ", jobs: " ∷ decimal jobs
    ∷ codes ", until " ∷ decimal until
    ∷ codes " us" ∷ [])
    ++ title_tail title ++ codes "</title>\n"

-- the scale
abbrev pub ticks_text : Frame → (bottom step : ℕ) → List ℕ
ticks_text f bottom step =
    each (f.to / step + 1 - steps_before f step)
    (λ i. tick_text f bottom ((steps_before f step + i) * step))

-- the lines of the rows
abbrev pub lines_text : Frame → (rows : ℕ) → List ℕ
lines_text f rows = each rows (line_text f)

-- the margin
abbrev pub margins_text : Frame → List TaskRow → (shown : List ℕ) → List JobRecord → List ℕ
margins_text f rows shown jobs = at_places rows shown (margin_text f jobs)

-- the same as a group, with the scale's unit and the lane of the processor
abbrev pub margin_group : Frame → List TaskRow → (shown : List ℕ) → List JobRecord → List Slice → List ℕ
margin_group f rows shown jobs slices =
    concat (codes "<g id=\"n\">\n<text x=\"500\" y=\"1200\">time in" ∷ unit_text (in_millis f)
    ∷ codes "</text>\n" ∷ [])
    ++ lane_head f slices ++ margins_text f rows shown jobs ++ codes "</g>\n"

-- whether a deadline is missed, and how many are
abbrev pub verdict_head : (missed : ℕ) → List ℕ
verdict_head missed =
    if missed == 0 then codes "<text class=\"t\" x=\"100\" y=\"200\">no deadline missed"
    else badge_text 190 150
    ++ (codes "<text class=\"t q\" x=\"320\" y=\"200\">deadlines missed: " ++ decimal missed)

-- how many letters that takes, and what stands between it and a title
abbrev pub verdict_letters : (missed : ℕ) → ℕ
verdict_letters missed = if missed == 0 then 21 else 28

-- the same, and behind it what was given as title, as far as there is room
abbrev pub verdict_text : Frame → List ℕ → (missed : ℕ) → List ℕ
verdict_text f title missed =
    verdict_head missed ++ title_in title (letters_behind f (verdict_letters missed))
    ++ codes "</text>\n"

-- what part of it is drawn, where that isn't all
abbrev pub window_words : (millis : Bool) → Frame → List ℕ
window_words millis f =
    if (f.from == 0) && (f.to == f.until) then []
    else concat (codes ", shown: " ∷ time_text millis f.from ∷ codes " to " ∷ time_text millis f.to
    ∷ unit_text millis ∷ [])

-- some task has a timer that takes time, or an interrupt on its account
abbrev pub are_interrupted : List TaskRow → Bool
are_interrupted rows = list_any (λ (row : TaskRow). interrupts_some row.sheet) rows

-- that the bounds then count what the run lacks
abbrev pub unrun_words : List TaskRow → List ℕ
unrun_words rows =
    if are_interrupted rows then codes ", timers and interrupts in the bounds alone" else []

-- the run, what it lacks, and what part of it is drawn
abbrev pub what_text : Frame → List TaskRow → (jobs until : ℕ) → List ℕ
what_text f rows jobs until =
    concat (codes "<text x=\"100\" y=\"390\">tasks: " ∷ decimal (length rows) ∷ codes ", jobs: "
    ∷ decimal jobs ∷ codes ", until " ∷ time_text (in_millis f) until
    ∷ unit_text (in_millis f) ∷ [])
    ++ unrun_words rows ++ window_words (in_millis f) f ++ codes "</text>\n"

-- what stands still: how the elements look, whether a deadline is missed, what is drawn, the scale, the lines of the lane and
-- of the rows, the margin, and the locks
abbrev pub ground_text : Frame → List ℕ → (held : List Toned) → List TaskRow → (shown : List ℕ) → List JobRecord → List Slice → (until : ℕ) → List ℕ
ground_text f title held rows shown jobs slices until =
    document_head f title (length held) (length shown) (length rows) (length jobs) until
    ++ STYLE.now ++ verdict_text f title (all_missed f rows jobs)
    ++ what_text f rows (length jobs) until
    ++ ticks_text f (top_of (length shown)) (step_of f) ++ lane_line f ++ lines_text f (length shown)
    ++ margin_group f rows shown jobs slices ++ locks_group f (length shown) held

-- what happens in the rows: the jobs, the marks, what is missed, why jobs wait, and the slices
abbrev pub run_text : Frame → List Toned → List TaskRow → (shown : List ℕ) → List Release → List JobRecord → List Slice → List ℕ
run_text f locks rows shown rs jobs slices =
    jobs_text f rows shown jobs ++ all_marks f rows shown jobs rs
    ++ misses_text f rows shown jobs ++ waits_text f locks rows shown rs jobs slices
    ++ slices_text f locks rows shown jobs slices

-- what is drawn in a frame: what stands still, with the locks that are held in it, the lane, and what happens in the rows
abbrev pub body_text : Frame → List ℕ → List Toned → List TaskRow → (shown : List ℕ) → ℕ → List Release → List JobRecord → List Slice → List ℕ
body_text f title locks rows shown until rs jobs slices =
    ground_text f title (held_locks f locks rows shown jobs slices) rows shown jobs slices until
    ++ lanes_text f rows jobs slices ++ run_text f locks rows shown rs jobs slices

-- the same as a document, with what the signs in it mean
abbrev pub signed : (text : List ℕ) → List ℕ
signed text = text ++ (legend_text text ++ codes "</svg>\n")

-- the document in a frame
abbrev pub framed : Frame → List ℕ → List Toned → List TaskRow → (shown : List ℕ) → ℕ → List Release → List JobRecord → List Slice → List ℕ
framed f title locks rows shown until rs jobs slices =
    signed (body_text f title locks rows shown until rs jobs slices)

-- THE DOCUMENT: the picture of a trace below a time, as a view has it
abbrev pub document : List TaskRow → View → ℕ → List Release → Trace → List ℕ
document rows v until rs trace =
    framed (frame_of rows v until) (string_bytes v.title) (locks_of rows) rows (shown_of v.tasks.items rs rows)
    until rs trace.jobs.items trace.slices.items
