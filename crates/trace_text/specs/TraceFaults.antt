-- Why a text is no trace.
use Rattle.std.specs.Prelude.{◌≡◌, ℕ, Bool, ◌||◌, nat_lt, List, [], ◌∷◌, length, Option, Some, None, Result, Ok, Err, if◌then◌else◌}
use Rattle.std.specs.Option.{option_map, option_or}
use Rattle.trace_text.specs.TraceLines.{jobs_of, rows_in, slices_of}
use Rattle.trace_text.specs.declared.fault.TraceFault.{TraceFault}
use Rattle.trace_text.specs.declared.fault.TraceFault.TheVariants as fault
use Rattle.trace_text.specs.declared.reading.TheConstants.{JOB_LIMIT, SLICE_LIMIT}
use Rattle.trace_text.specs.declared.reading.TraceLines.{TraceLines}
use Rattle.trace_text.specs.declared.rows.TraceRow.{TraceRow}
use Rattle.trace_text.specs.declared.rows.TraceSlice.{TraceSlice}
use Rattle.trace_text.specs.declared.rows.TraceJob.{TraceJob}

-- ---- the tests
-- of slices, none of which may begin before a time: the line of the first that begins before the end of the one before
abbrev pub overlap_from : ℕ → List TraceSlice → Option ℕ
overlap_from free [] = None
overlap_from free (s ∷ ss) = if nat_lt s.start free then Some s.line else overlap_from s.stop ss

-- the line of the first slice that begins before the end of the one before it
abbrev pub overlap_in : List TraceSlice → Option ℕ
overlap_in slices = overlap_from 0 slices

-- of jobs, none of which may arrive before a time: the line of the first that arrives before the one before
abbrev pub unsorted_from : ℕ → List TraceJob → Option ℕ
unsorted_from earliest [] = None
unsorted_from earliest (j ∷ js) =
    if nat_lt j.arrival earliest then Some j.line else unsorted_from j.arrival js

-- the line of the first job that arrives before the one before it
abbrev pub unsorted_in : List TraceJob → Option ℕ
unsorted_in jobs = unsorted_from 0 jobs

-- there are more than the limits
abbrev pub are_too_many : List TraceSlice → List TraceJob → Bool
are_too_many slices jobs = nat_lt SLICE_LIMIT (length slices) || nat_lt JOB_LIMIT (length jobs)

-- ---- the faults
-- why slices and jobs are no trace
abbrev pub sequence_fault : List TraceSlice → List TraceJob → Option TraceFault
sequence_fault slices jobs =
    option_or (option_map (λ line. fault.SliceOverlap line) (overlap_in slices))
    (option_or (option_map (λ line. fault.JobUnsorted line) (unsorted_in jobs))
    (if are_too_many slices jobs then Some fault.TooManyLines else None))

-- the first reason of a reading
abbrev pub rows_fault : Result (List TraceRow) ℕ → Option TraceFault
rows_fault (Err line) = Some (fault.BadLine line)
rows_fault (Ok rows) = sequence_fault (slices_of rows) (jobs_of rows)

-- the first reason why a text is no trace
abbrev pub trace_fault : List ℕ → Option TraceFault
trace_fault text = rows_fault (rows_in text)

-- what a reading says that is a trace
pub record IsTraceOf (found : Result (List TraceRow) ℕ) (trace : TraceLines) : Type 0 where
  pub sound : rows_fault found ≡ None
  pub rows : List TraceRow
  pub read : found ≡ Ok rows
  pub slices : trace.slices.items ≡ slices_of rows
  pub jobs : trace.jobs.items ≡ jobs_of rows

-- what a text says that is a trace
abbrev pub IsTraceIn : List ℕ → TraceLines → Type 0
IsTraceIn text trace = IsTraceOf (rows_in text) trace

-- ---- how they are found
-- a fault is out of memory, or the first faulty line
abbrev pub IsRowsFault : TraceFault → Result (List TraceRow) ℕ → Type 0
IsRowsFault fault.OutOfMemory read = Unit {0}
IsRowsFault (fault.BadLine line) read = read ≡ Err line
IsRowsFault _ read = ⊥

-- a fault is out of memory, or the first reason
abbrev pub IsTraceFault : TraceFault → Option TraceFault → Type 0
IsTraceFault fault.OutOfMemory reason = Unit {0}
IsTraceFault e reason = reason ≡ Some e
