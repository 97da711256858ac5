-- What the jobs of a task came to in a run.
use Rattle.std.specs.Prelude.{ℕ, ◌-◌, Bool, ◌&&◌, List}
use Rattle.std.specs.Option.{is_some, unwrap_or}
use Rattle.std.specs.List.{filter}
use Rattle.task_sheet.specs.Sheet.{same_bytes}
use Rattle.ceiling_kernel.specs.declared.trace.JobRecord.{JobRecord}

-- the job is done, and one of the task with a name
abbrev pub is_done_of : List ℕ → JobRecord → Bool
is_done_of name job = is_some job.finish && same_bytes job.name name

-- the jobs of that task that are done
abbrev pub done_of : List ℕ → List JobRecord → List JobRecord
done_of name jobs = filter (is_done_of name) jobs

-- the response of a job that is done: from its arrival to its finish
abbrev pub response_of : JobRecord → ℕ
response_of job = unwrap_or job.finish 0 - job.release
