-- The slices of a run, each with the task of its job.
use Rattle.std.specs.Prelude.{ℕ, Bool, false, ◌==◌, List, length, map, slice_get, Option, Some, None, unwrap_or}
use Rattle.task_sheet.specs.Sheet.{Task}
use Rattle.ceiling_kernel.specs.Releases.{task_named}
use Rattle.ceiling_kernel.specs.declared.trace.JobRecord.{JobRecord}
use Rattle.ceiling_kernel.specs.declared.trace.Slice.{Slice}
use Rattle.ceiling_kernel.specs.declared.trace.Trace.{Trace}
use Rattle.chain_runs.specs.declared.slices.TaskSlice.{TaskSlice}

-- a finish, where there is one, is at a time
abbrev pub is_finish : Option ℕ → ℕ → Bool
is_finish None t = false
is_finish (Some f) t = f == t

-- the index of a job's task; the number of tasks where its name is unknown
abbrev pub task_of : List Task → JobRecord → ℕ
task_of U job = unwrap_or (task_named U job.name) (length U)

-- a slice of a job, where there is one, by its task, and whether the job finishes with it
abbrev pub slice_by : List Task → Option JobRecord → Slice → TaskSlice
slice_by U None s =
    record { task = length U; start = s.start; stop = s.stop; ends = false }
slice_by U (Some job) s =
    record {
      task = task_of U job;
      start = s.start;
      stop = s.stop;
      ends = is_finish job.finish s.stop;
    }

abbrev pub slice_of : List Task → List JobRecord → Slice → TaskSlice
slice_of U jobs s = slice_by U (slice_get jobs s.job) s

-- those of a run, by time
abbrev pub slices_of : List Task → Trace → List TaskSlice
slices_of U trace = map (slice_of U trace.jobs.items) trace.slices.items
