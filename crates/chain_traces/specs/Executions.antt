-- The slices of a set's tasks in a trace, each with its job.
use Rattle.std.specs.Prelude.{ℕ, List, [], ◌∷◌, slice_get, Option, Some, None}
use Rattle.task_sheet.specs.Sheet.{Task}
use Rattle.ceiling_kernel.specs.Releases.{task_named}
use Rattle.trace_text.specs.declared.rows.TraceJob.{TraceJob}
use Rattle.trace_text.specs.declared.reading.TraceLines.{TraceLines}
use Rattle.observed.specs.Pieces.{pieces_of}
use Rattle.observed.specs.declared.pieces.Piece.{Piece}
use Rattle.chain_traces.specs.declared.executions.Execution.{Execution}

-- a slice with its task and its job, where it has both
abbrev pub execution_by : Piece → (place : ℕ) → Option TraceJob → (task : Option ℕ) → Option Execution
execution_by p place None task = None
execution_by p place (Some job) None = None
execution_by p place (Some job) (Some task) =
    Some (record { task = task; job = place; start = p.start; finish = job.finish })

abbrev pub execution_at : List Task → List TraceJob → Piece → (place : Option ℕ) → Option Execution
execution_at U jobs p None = None
execution_at U jobs p (Some place) = execution_by p place (slice_get jobs place) (task_named U p.name)

abbrev pub execution_of : List Task → List TraceJob → Piece → Option Execution
execution_of U jobs p = execution_at U jobs p p.job

-- those that there are
abbrev pub with_execution : Option Execution → List Execution → List Execution
with_execution None es = es
with_execution (Some e) es = e ∷ es

abbrev pub executions_of : List Task → List TraceJob → List Piece → List Execution
executions_of U jobs [] = []
executions_of U jobs (p ∷ ps) = with_execution (execution_of U jobs p) (executions_of U jobs ps)

-- those of a trace, by time
abbrev pub executions_in : List Task → TraceLines → List Execution
executions_in U trace =
    executions_of U trace.jobs.items (pieces_of [] trace.jobs.items trace.slices.items)
