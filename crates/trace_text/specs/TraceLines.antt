-- The lines of a trace: `START STOP NAME` for a slice, perhaps with `@P` behind it, the priority at which the thread ran;
-- `job NAME ARRIVAL FINISH` for a job, with `-` where it has no finish, perhaps with the time behind it at which it was ready.
-- A simulated run prints the shorter ones. Times are whole microseconds.
use Rattle.std.specs.Prelude.{ℕ, ◌==◌, ◌&&◌, unwrap_or, nat_le, nat_lt, List, [], ◌∷◌, Option, Some, None, Result, Ok, Err, bytes_eq, codes, if◌then◌else◌}
use Rattle.std.specs.Option.{option_map}
use Rattle.lines.specs.TextLines.{kept_from, kept_lines, lines_of, rows_by}
use Rattle.lines.specs.Words.{name_in, number_in}
use Rattle.trace_text.specs.declared.rows.TraceRow.{TraceRow}
use Rattle.trace_text.specs.declared.rows.TraceRow.TheVariants.{Slice, Job}
use Rattle.trace_text.specs.declared.rows.TraceSlice.{TraceSlice}
use Rattle.trace_text.specs.declared.rows.TraceJob.{TraceJob}

-- ---- a line
-- the slice of two times, of which the first is less, and a name
abbrev pub slice_of : ℕ → Option ℕ → Option ℕ → Option (List ℕ) → Option TraceSlice
slice_of line None stop name = None
slice_of line (Some start) None name = None
slice_of line (Some start) (Some stop) None = None
slice_of line (Some start) (Some stop) (Some name) =
    if nat_lt start stop
    then Some (record { line = line; start = start; stop = stop; name = name; priority = None })
    else None

-- the slice that the words of a line are
abbrev pub slice_at : ℕ → (start stop name : List ℕ) → Option TraceSlice
slice_at line start stop name = slice_of line (number_in start) (number_in stop) (name_in name)

-- the number behind the `@` that a word begins with
abbrev pub priority_in : List ℕ → Option ℕ
priority_in [] = None
priority_in (c ∷ digits) = if c == 64 then number_in digits else None

-- a slice at a priority
abbrev pub ranked : Option TraceSlice → Option ℕ → Option TraceSlice
ranked None priority = None
ranked (Some slice) None = None
ranked (Some slice) (Some priority) = Some (record slice { priority = Some priority })

-- a finish that isn't before the arrival
abbrev pub finish_after : ℕ → Option ℕ → Option (Option ℕ)
finish_after arrival None = None
finish_after arrival (Some finish) = if nat_le arrival finish then Some (Some finish) else None

-- the finish that a word says: `-`, or a number that isn't before the arrival
abbrev pub finish_in : ℕ → List ℕ → Option (Option ℕ)
finish_in arrival word =
    if bytes_eq word (codes "-") then Some None else finish_after arrival (number_in word)

-- the job of a name and its times
abbrev pub job_made : ℕ → List ℕ → ℕ → Option (Option ℕ) → Option TraceJob
job_made line name arrival None = None
job_made line name arrival (Some finish) =
    Some (record { line = line; name = name; arrival = arrival; finish = finish; ready = None })

-- the job of a name and an arrival, where they are ones
abbrev pub job_of : ℕ → Option (List ℕ) → Option ℕ → List ℕ → Option TraceJob
job_of line None arrival finish = None
job_of line (Some name) None finish = None
job_of line (Some name) (Some arrival) finish =
    job_made line name arrival (finish_in arrival finish)

-- the job that the words of a line behind its first are
abbrev pub job_at : ℕ → (name arrival finish : List ℕ) → Option TraceJob
job_at line name arrival finish = job_of line (name_in name) (number_in arrival) finish

-- a job that was ready at a time, not before its arrival nor behind its finish
abbrev pub readied : Option TraceJob → Option ℕ → Option TraceJob
readied None ready = None
readied (Some job) None = None
readied (Some job) (Some ready) =
    if nat_le job.arrival ready && nat_le ready (unwrap_or job.finish ready)
    then Some (record job { ready = Some ready })
    else None

-- ---- a line by its words
abbrev pub three_words : ℕ → (a b c : List ℕ) → Option TraceRow
three_words line a b c = option_map (λ s. Slice s) (slice_at line a b c)

abbrev pub four_words : ℕ → (a b c d : List ℕ) → Option TraceRow
four_words line a b c d =
    if bytes_eq a (codes "job")
    then option_map (λ j. Job j) (job_at line b c d)
    else option_map (λ s. Slice s) (ranked (slice_at line a b c) (priority_in d))

abbrev pub five_words : ℕ → (a b c d e : List ℕ) → Option TraceRow
five_words line a b c d e =
    if bytes_eq a (codes "job")
    then option_map (λ j. Job j) (readied (job_at line b c d) (number_in e))
    else None

-- what a line says: `START STOP NAME`, with or without `@P`, or `job NAME ARRIVAL FINISH`, with or without READY
abbrev pub trace_row_in : ℕ → List (List ℕ) → Option TraceRow
trace_row_in line [] = None
trace_row_in line (a ∷ []) = None
trace_row_in line (a ∷ b ∷ []) = None
trace_row_in line (a ∷ b ∷ c ∷ []) = three_words line a b c
trace_row_in line (a ∷ b ∷ c ∷ d ∷ []) = four_words line a b c d
trace_row_in line (a ∷ b ∷ c ∷ d ∷ e ∷ []) = five_words line a b c d e
trace_row_in line (a ∷ b ∷ c ∷ d ∷ e ∷ more ∷ rest) = None

-- ---- a text
-- the rows of numbered lines, or the number of the first faulty line
abbrev pub rows_from : List (ℕ × List ℕ) → Result (List TraceRow) ℕ
rows_from ls = rows_by trace_row_in ls

-- the rows of lines, the first of which has a number, that are not skipped, or the number of the first faulty line
abbrev pub rows_at : ℕ → List ℕ → Result (List TraceRow) ℕ
rows_at line rest = rows_from (kept_from line (lines_of rest))

-- the rows of the lines of a text that are not skipped, or the number of the first faulty line
abbrev pub rows_in : List ℕ → Result (List TraceRow) ℕ
rows_in text = rows_from (kept_lines text)

-- the slice of a row, in front of others
abbrev pub with_slice : TraceRow → List TraceSlice → List TraceSlice
with_slice (Slice slice) slices = slice ∷ slices
with_slice (Job job) slices = slices

-- the job of a row, in front of others
abbrev pub with_job : TraceRow → List TraceJob → List TraceJob
with_job (Slice slice) jobs = jobs
with_job (Job job) jobs = job ∷ jobs

-- the slices, in the order of the lines
abbrev pub slices_of : List TraceRow → List TraceSlice
slices_of [] = []
slices_of (row ∷ rows) = with_slice row (slices_of rows)

-- the jobs, in the order of the lines
abbrev pub jobs_of : List TraceRow → List TraceJob
jobs_of [] = []
jobs_of (row ∷ rows) = with_job row (jobs_of rows)

-- the slices and the jobs of a reading, or the number of the first faulty line
abbrev pub parts_of : Result (List TraceRow) ℕ → Result (List TraceSlice × List TraceJob) ℕ
parts_of (Ok rows) = Ok (slices_of rows, jobs_of rows)
parts_of (Err line) = Err line
