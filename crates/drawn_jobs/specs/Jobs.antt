-- Jobs, from their arrivals up to their bounds.
use Rattle.std.specs.Prelude.{ℕ, ◌+◌, ◌-◌, Bool, true, ◌&&◌, nat_lt, if◌then◌else◌, Option, Some, None, List, [], ◌∷◌, ◌++◌, codes}
use Rattle.std.specs.Option.{unwrap_or}
use Rattle.std.specs.Fmt.{decimal}
use Rattle.std.specs.List.{concat}
use Rattle.ceiling_kernel.specs.declared.trace.JobRecord.{JobRecord}
use Rattle.frames.specs.declared.rows.TaskRow.{TaskRow}
use Rattle.frames.specs.Frame.{Frame, sees, top_of, x_of}
use Rattle.frames.specs.Boxes.{span_text}
use Rattle.frames.specs.Numbers.{known_text}

-- how long after its arrival a job is done at the latest, or without a bound has to be
abbrev pub limit_of : TaskRow → ℕ
limit_of row = unwrap_or row.bound row.sheet.deadline

-- a box from an arrival up to the bound or deadline of a job that arrives then or later
abbrev pub limit_path : Frame → (k : ℕ) → TaskRow → (first latest : ℕ) → List ℕ
limit_path f k row first latest = span_text f k first (latest + limit_of row)

-- whose job it is, when it arrives and is done, and how long after its arrival
abbrev pub job_words : (name : List ℕ) → (arrival : ℕ) → Option ℕ → List ℕ
job_words name arrival (Some finish) =
    concat (name ∷ codes ": arrival " ∷ decimal arrival ∷ codes ", done " ∷ decimal finish
    ∷ codes ", response " ∷ decimal (finish - arrival) ∷ [])
job_words name arrival None =
    concat (name ∷ codes ": arrival " ∷ decimal arrival ∷ codes ", not done" ∷ [])

-- the box of a job, and what is told of it
abbrev pub job_box : (path : List ℕ) → (bound : Option ℕ) → (deadline : ℕ) → JobRecord → List ℕ
job_box path bound deadline job =
    concat (codes "<path class=\"w\" d=\"" ∷ path ∷ codes "\"><title>"
    ∷ job_words job.name job.release job.finish ∷ codes ", bound " ∷ known_text bound
    ∷ codes ", deadline " ∷ decimal deadline ∷ codes " us</title></path>\n" ∷ [])

-- a job goes on before the window
abbrev pub goes_back : Frame → JobRecord → Bool
goes_back f job = nat_lt job.release f.from && nat_lt f.from (unwrap_or job.finish f.until)

-- a job goes on behind the window
abbrev pub goes_on : Frame → Option ℕ → Bool
goes_on f (Some finish) = nat_lt f.to finish
goes_on f None = true

-- a sign of a class and a shape, where it is wanted
abbrev pub sign_text : Bool → (class : List ℕ) → (x y : ℕ) → (shape : List ℕ) → List ℕ
sign_text wanted class x y shape =
    if wanted
    then concat (codes "<path class=\"" ∷ class ∷ codes "\" d=\"M" ∷ decimal x ∷ codes " " ∷ decimal y
    ∷ shape ∷ codes "\"/>\n" ∷ [])
    else []

-- signs in row k at the beginning and at the end, or where the run ends, for what goes on before the window and behind it
abbrev pub signs_text : Frame → (k : ℕ) → (back on : Bool) → List ℕ
signs_text f k back on =
    sign_text back (codes "a") f.left (top_of k + 195)
    (codes "m-20 0l-60 60 60 60m-60-120l-60 60 60 60")
    ++ sign_text on (codes "a") (x_of f f.until) (top_of k + 195)
    (codes "m20 0l60 60-60 60m60-120l60 60-60 60")

-- those of a job
abbrev pub job_signs : Frame → (k : ℕ) → JobRecord → List ℕ
job_signs f k job = signs_text f k (goes_back f job) (goes_on f job.finish)

-- how long after its arrival a job is done at the latest in a run, which has no timers and no interrupts
abbrev pub run_limit : TaskRow → ℕ
run_limit row = limit_of row - row.unrun

-- the end of a box up to the bound of a job that arrives then, from there on, with how long that is: what timers and
-- interrupts take of the bound
abbrev pub unrun_box : Frame → (k : ℕ) → TaskRow → (arrival : ℕ) → List ℕ
unrun_box f k row arrival =
    concat (codes "<path class=\"wt\" d=\""
    ∷ span_text f k (arrival + run_limit row) (arrival + limit_of row)
    ∷ codes "\"><title>timers and interrupts, not in this run: " ∷ decimal row.unrun
    ∷ codes " us</title></path>\n" ∷ [])

-- the same, where they take some of it, and that is in the window
abbrev pub unrun_text : Frame → (k : ℕ) → TaskRow → (arrival : ℕ) → List ℕ
unrun_text f k row arrival =
    if nat_lt 0 row.unrun && sees f (arrival + run_limit row) (arrival + limit_of row)
    then unrun_box f k row arrival
    else []

-- a job whose box is in the window
abbrev pub seen_job : Frame → JobRecord → ℕ → TaskRow → List ℕ
seen_job f job k row =
    job_box (limit_path f k row job.release job.release) row.bound row.sheet.deadline job
    ++ unrun_text f k row job.release ++ job_signs f k job

-- a job
abbrev pub job_text : Frame → JobRecord → ℕ → TaskRow → List ℕ
job_text f job k row =
    if sees f job.release (job.release + limit_of row) then seen_job f job k row else []
