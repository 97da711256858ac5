-- What the lines say that a run is printed as.
use Rattle.std.specs.Prelude.{◌≡◌, ℕ, ◌+◌, List, [], ◌∷◌, length, slice_index_or, None}
use Rattle.ceiling_kernel.specs.Runs.{no_record}
use Rattle.ceiling_kernel.specs.declared.trace.JobRecord.{JobRecord}
use Rattle.ceiling_kernel.specs.declared.trace.Slice.{Slice}
use Rattle.ceiling_kernel.specs.declared.trace.Trace.{Trace}
use Rattle.trace_text.specs.declared.reading.TraceLines.{TraceLines}
use Rattle.trace_text.specs.declared.rows.TraceJob.{TraceJob}
use Rattle.trace_text.specs.declared.rows.TraceSlice.{TraceSlice}

-- the line of a slice says from when to when, and the name of its job's task
abbrev pub slice_row : List JobRecord → ℕ → Slice → TraceSlice
slice_row jobs line s =
    record {
      line = line;
      start = s.start;
      stop = s.stop;
      name = (slice_index_or jobs s.job no_record).name;
      priority = None;
    }

-- a line for each slice, of which the first has a number
abbrev pub slices_from : List JobRecord → ℕ → List Slice → List TraceSlice
slices_from jobs line [] = []
slices_from jobs line (s ∷ ss) = slice_row jobs line s ∷ slices_from jobs (line + 1) ss

-- the line of a job says its task's name, its arrival, and its finish, if it has one
abbrev pub job_row : ℕ → JobRecord → TraceJob
job_row line job =
    record { line = line; name = job.name; arrival = job.release; finish = job.finish; ready = None }

-- a line for each job, of which the first has a number
abbrev pub jobs_from : ℕ → List JobRecord → List TraceJob
jobs_from line [] = []
jobs_from line (job ∷ jobs) = job_row line job ∷ jobs_from (line + 1) jobs

-- the lines, of which the first has a number, say the trace: the slices by time, and then the jobs in the order of the
-- releases
pub record Say (first : ℕ) (lines : TraceLines) (trace : Trace) : Type 0 where
  pub slices : lines.slices.items ≡ slices_from trace.jobs.items first trace.slices.items
  pub jobs : lines.jobs.items ≡ jobs_from (first + length trace.slices.items) trace.jobs.items
