-- What a trace shows of the jobs of a set's tasks.
use Rattle.std.specs.Prelude.{ℕ, ◌+◌, List, [], ◌∷◌, take, Option, Some, None, slice_index_or}
use Rattle.std.specs.Option.{option_map}
use Rattle.task_sheet.specs.Sheet.{Task}
use Rattle.trace_text.specs.declared.fault.TraceFault.{TraceFault}
use Rattle.trace_text.specs.declared.fault.TraceFault.TheVariants as fault
use Rattle.trace_text.specs.declared.reading.TraceLines.{TraceLines}
use Rattle.trace_text.specs.declared.rows.TraceJob.{TraceJob}
use Rattle.observed.specs.End.{end_of}
use Rattle.observed.specs.Pieces.{homeless_line, level_of, pieces_of}
use Rattle.observed.specs.Promises.{no_promise}
use Rattle.observed.specs.Seen.{seen_job}
use Rattle.observed.specs.declared.promises.Promise.{Promise}
use Rattle.observed.specs.declared.pieces.Piece.{Piece}
use Rattle.observed.specs.SeenJob.{SeenData}

-- what is seen of a job at a level, in front of what is seen of others; nothing where it has no level
abbrev pub with_seen : List Task → List Promise → ℕ → List Piece → List TraceJob → TraceJob → Option ℕ → List SeenData
    → List SeenData
with_seen U promises end pieces before job None seen = seen
with_seen U promises end pieces before job (Some level) seen =
    seen_job U promises (slice_index_or promises level no_promise) level end pieces before job ∷ seen

-- of jobs, of which the first stands at a place among all: what is seen of those of tasks of the set
abbrev pub seen_from : List Task → List Promise → ℕ → List Piece → List TraceJob → ℕ → List TraceJob → List SeenData
seen_from U promises end pieces all place [] = []
seen_from U promises end pieces all place (job ∷ jobs) =
    with_seen U promises end pieces (take place all) job (level_of promises job.name)
    (seen_from U promises end pieces all (place + 1) jobs)

-- what is seen of the jobs of tasks of the set
abbrev pub seen_jobs : List Task → List Promise → ℕ → List Piece → List TraceJob → List SeenData
seen_jobs U promises end pieces jobs = seen_from U promises end pieces jobs 0 jobs

-- what a trace shows of the jobs of tasks of the set
abbrev pub observed_in : List Task → List Promise → TraceLines → List SeenData
observed_in U promises trace =
    seen_jobs U promises (end_of trace.slices.items trace.jobs.items)
    (pieces_of promises trace.jobs.items trace.slices.items) trace.jobs.items

-- why a trace is none of the set: a slice of a task lies in no job of it
abbrev pub observed_fault : List Promise → TraceLines → Option TraceFault
observed_fault promises trace =
    option_map (λ line. fault.NoJob line)
    (homeless_line (pieces_of promises trace.jobs.items trace.slices.items))
