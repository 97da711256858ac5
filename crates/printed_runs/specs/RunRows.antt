-- The rows of the lines that a run is printed as.
use Rattle.std.specs.Prelude.{◌+◌, List, ◌++◌, length, map}
use Rattle.ceiling_kernel.specs.declared.trace.Trace.{Trace}
use Rattle.trace_text.specs.declared.rows.TraceRow.{TraceRow}
use Rattle.trace_text.specs.declared.rows.TraceRow.TheVariants.{Slice, Job}
use Rattle.kept_promises.specs.PrintedRuns.{jobs_from, slices_from}

-- the slices, and then the jobs
abbrev pub rows_of : Trace → List TraceRow
rows_of trace =
    map Slice (slices_from trace.jobs.items 1 trace.slices.items)
    ++ map Job (jobs_from (1 + length trace.slices.items) trace.jobs.items)
