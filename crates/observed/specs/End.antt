-- The end of a trace: the last time that it names.
use Rattle.std.specs.Prelude.{ℕ, max, List, unwrap_or}
use Rattle.task_sheet.specs.Demand.{greatest_of}
use Rattle.trace_text.specs.declared.rows.TraceSlice.{TraceSlice}
use Rattle.trace_text.specs.declared.rows.TraceJob.{TraceJob}

-- the last time that a job has: its finish, which isn't before its arrival
abbrev pub last_of : TraceJob → ℕ
last_of job = unwrap_or job.finish job.arrival

-- the last time of slices and jobs
abbrev pub end_of : List TraceSlice → List TraceJob → ℕ
end_of slices jobs = max (greatest_of (λ s. s.stop) slices) (greatest_of last_of jobs)
