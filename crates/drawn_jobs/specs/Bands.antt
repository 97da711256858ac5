-- Jobs of a task that are too close to be drawn apart: they are one band.
use Rattle.std.specs.Prelude.{ℕ, ◌+◌, ◌-◌, ◌*◌, ◌/◌, Bool, ◌&&◌, nat_lt, ◌==◌, if◌then◌else◌, Option, Some, None, List, [], ◌∷◌, ◌++◌, length, codes}
use Rattle.std.specs.Fmt.{decimal}
use Rattle.std.specs.List.{concat, list_any}
use Rattle.task_sheet.specs.Demand.{greatest_of}
use Rattle.run_lines.specs.RunLines.{greatest_words}
use Rattle.run_lines.specs.Reached.{done_of, response_of}
use Rattle.ceiling_kernel.specs.declared.trace.JobRecord.{JobRecord}
use Rattle.pieces.specs.Bands.{is_of, all_of, arrival_of, joins, stretch_of}
use Rattle.frames.specs.declared.rows.TaskRow.{TaskRow}
use Rattle.frames.specs.Frame.{Frame, x_of, in_millis, is_in, sees, right_of, top_of}
use Rattle.frames.specs.PictureRows.{record_at, each, on_spot}
use Rattle.frames.specs.Numbers.{known_text, time_text, unit_text}
use Rattle.drawn_jobs.specs.Jobs.{limit_of, limit_path, goes_on, sign_text, signs_text, job_text, unrun_text}

-- how many microseconds 20 pixels are: arrivals of a task that are less apart are too close
abbrev pub gap_of : Frame → ℕ
gap_of f = 200 * (f.to - f.from) / f.span

-- the box of a band, how many jobs are in it, and when they arrive
abbrev pub band_box : (path : List ℕ) → JobRecord → (count latest : ℕ) → List ℕ
band_box path first count latest =
    concat (codes "<path class=\"l w\" d=\"" ∷ path ∷ codes "\"><title>" ∷ first.name ∷ codes ": "
    ∷ decimal count ∷ codes " jobs, arrivals " ∷ decimal first.release ∷ codes " to "
    ∷ decimal latest ∷ [])

-- how many of them are done, the greatest response among those, their bound and their deadline
abbrev pub band_words : (done greatest : ℕ) → (bound : Option ℕ) → (deadline : ℕ) → List ℕ
band_words done greatest bound deadline =
    concat (codes ", done " ∷ decimal done ∷ codes ", longest response "
    ∷ greatest_words done greatest ∷ codes ", bound " ∷ known_text bound
    ∷ codes ", deadline " ∷ decimal deadline ∷ codes " us</title></path>\n" ∷ [])

-- behind the number of jobs, where there is room: the greatest response in the picture's unit, if some job is done
abbrev pub wide_words : (millis : Bool) → (wide done greatest : ℕ) → List ℕ
wide_words millis wide done greatest =
    if nat_lt wide 1860 then []
    else if done == 0 then codes " jobs"
    else concat (codes " jobs, longest " ∷ time_text millis greatest ∷ unit_text millis ∷ [])

-- what stands below a band that reaches from a place up to another
abbrev pub band_label : (millis : Bool) → (x right k count done greatest : ℕ) → List ℕ
band_label millis x right k count done greatest =
    concat (codes "<text x=\"" ∷ decimal (x + 20) ∷ codes "\" y=\"" ∷ decimal (top_of k + 455)
    ∷ codes "\">" ∷ decimal count ∷ wide_words millis (right - x) done greatest ∷ codes "</text>\n" ∷ [])

-- a bracket at a bound behind the latest arrival, if there is one, where that is in the picture
abbrev pub last_bound : Frame → (k latest : ℕ) → Option ℕ → List ℕ
last_bound f k latest None = []
last_bound f k latest (Some bound) =
    sign_text (is_in f (latest + bound)) (codes "b") (x_of f (latest + bound)) (top_of k + 155)
    (codes "h-35m35 0v40m0 120v40h-35")

-- of some jobs one of the task with a name goes on behind the window
abbrev pub any_on : Frame → List ℕ → List JobRecord → Bool
any_on f name jobs = list_any (λ job. is_of name job && goes_on f job.finish) jobs

-- the band of those of some jobs that are of the first one's task, whose box is in the window
abbrev pub seen_band : Frame → (k : ℕ) → TaskRow → JobRecord → List JobRecord → (count latest done greatest : ℕ) → List ℕ
seen_band f k row first jobs count latest done greatest =
    band_box (limit_path f k row first.release latest) first count latest
    ++ band_words done greatest row.bound row.sheet.deadline
    ++ band_label (in_millis f) (x_of f first.release)
    (right_of f first.release (latest + limit_of row)) k count done greatest
    ++ unrun_text f k row latest ++ last_bound f k latest row.bound
    ++ signs_text f k (nat_lt first.release f.from) (any_on f first.name jobs)

-- the same of any band
abbrev pub band_with : Frame → (k : ℕ) → TaskRow → JobRecord → List JobRecord → (count latest done greatest : ℕ) → List ℕ
band_with f k row first jobs count latest done greatest =
    if sees f first.release (latest + limit_of row)
    then seen_band f k row first jobs count latest done greatest
    else []

-- with what its jobs come to
abbrev pub band_text : Frame → JobRecord → List JobRecord → ℕ → TaskRow → List ℕ
band_text f first jobs k row =
    band_with f k row first jobs (length (all_of first.name jobs))
    (greatest_of arrival_of (all_of first.name jobs)) (length (done_of first.name jobs))
    (greatest_of response_of (done_of first.name jobs))

-- one of them alone, or a band of more
abbrev pub stand_text : Frame → JobRecord → List JobRecord → ℕ → TaskRow → List ℕ
stand_text f first jobs k row =
    if nat_lt 1 (length (all_of first.name jobs)) then band_text f first jobs k row
    else job_text f first k row

-- job i, in row k: what joins one before it has been drawn with that
abbrev pub place_text : Frame → List JobRecord → (i : ℕ) → ℕ → TaskRow → List ℕ
place_text f jobs i k row =
    if joins (gap_of f) jobs i then []
    else stand_text f (record_at jobs i) (stretch_of (gap_of f) jobs i) k row

-- each job, alone or in a band
abbrev pub jobs_text : Frame → List TaskRow → (shown : List ℕ) → List JobRecord → List ℕ
jobs_text f rows shown jobs =
    each (length jobs)
    (λ i. on_spot rows shown (record_at jobs i).name (λ s. place_text f jobs i s.k))
