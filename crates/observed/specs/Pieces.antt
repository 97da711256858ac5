-- Of which level and of which job the slices of a trace are.
use Rattle.std.specs.Prelude.{ℕ, Bool, ◌&&◌, nat_le, List, [], ◌∷◌, Option, is_none, map, position, unwrap_or}
use Rattle.std.specs.Option.{is_some, option_map}
use Rattle.std.specs.List.{find}
use Rattle.task_sheet.specs.Sheet.{same_bytes}
use Rattle.trace_text.specs.declared.rows.TraceSlice.{TraceSlice}
use Rattle.trace_text.specs.declared.rows.TraceJob.{TraceJob}
use Rattle.observed.specs.declared.promises.Promise.{Promise}
use Rattle.observed.specs.declared.pieces.Piece.{Piece}

-- the level of the task with a name, counted from 0; none for a thread of the node's own
abbrev pub level_of : List Promise → List ℕ → Option ℕ
level_of promises name = position (λ p. same_bytes p.name name) promises

-- the slice is of the job's task and lies between its arrival and its finish, if it has one
abbrev pub is_of : TraceSlice → TraceJob → Bool
is_of slice job =
    same_bytes job.name slice.name && (nat_le job.arrival slice.start
    && nat_le slice.stop (unwrap_or job.finish slice.stop))

-- the place of the first job, by arrivals, between whose arrival and finish a slice lies
abbrev pub job_of : List TraceJob → TraceSlice → Option ℕ
job_of jobs slice = position (λ j. is_of slice j) jobs

-- a slice with the level of its task, and a place of its job
abbrev pub piece_with : List Promise → TraceSlice → Option ℕ → Piece
piece_with promises slice job =
    record {
      line = slice.line;
      name = slice.name;
      level = level_of promises slice.name;
      job = job;
      start = slice.start;
      stop = slice.stop;
      priority = slice.priority;
    }

-- the same, with that of the first job that it is of
abbrev pub piece_of : List Promise → List TraceJob → TraceSlice → Piece
piece_of promises jobs slice = piece_with promises slice (job_of jobs slice)

-- each slice of a trace
abbrev pub pieces_of : List Promise → List TraceJob → List TraceSlice → List Piece
pieces_of promises jobs slices = map (piece_of promises jobs) slices

-- slices, each with the level of its task and the place of its job, which stand apart
abbrev pub pieces_at : List Promise → List (Option ℕ) → List TraceSlice → List Piece
pieces_at promises [] slices = []
pieces_at promises (home ∷ homes) [] = []
pieces_at promises (home ∷ homes) (slice ∷ slices) =
    piece_with promises slice home ∷ pieces_at promises homes slices

-- it is of a task of the set, and lies in no job of it
abbrev pub is_homeless : Piece → Bool
is_homeless piece = is_some piece.level && is_none piece.job

-- the line of the first such piece
abbrev pub homeless_line : List Piece → Option ℕ
homeless_line pieces = option_map (λ p. p.line) (find is_homeless pieces)
