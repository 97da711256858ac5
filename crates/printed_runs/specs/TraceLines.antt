-- The lines that say a trace.
use Rattle.std.specs.Prelude.{ℕ, List, [], ◌∷◌, ◌++◌, Option, Some, None, codes, slice_index_or}
use Rattle.std.specs.Fmt.{decimal}
use Rattle.ceiling_kernel.specs.Runs.{no_record}
use Rattle.ceiling_kernel.specs.declared.trace.JobRecord.{JobRecord}
use Rattle.ceiling_kernel.specs.declared.trace.Slice.{Slice}
use Rattle.ceiling_kernel.specs.declared.trace.Trace.{Trace}

-- a slice: from when to when, and the name of its job's task
abbrev pub slice_line : List JobRecord → Slice → List ℕ
slice_line jobs s =
    decimal s.start ++ codes " " ++ decimal s.stop ++ codes " "
    ++ (slice_index_or jobs s.job no_record).name
    ++ codes "\n"

-- a line for each slice
abbrev pub slice_lines : List JobRecord → List Slice → List ℕ
slice_lines jobs [] = []
slice_lines jobs (s ∷ ss) = slice_line jobs s ++ slice_lines jobs ss

-- when a job finished, or `-`
abbrev pub finish_words : Option ℕ → List ℕ
finish_words None = codes "-"
finish_words (Some time) = decimal time

-- a job: its task's name, its release, and its finish, or `-`
abbrev pub job_line : JobRecord → List ℕ
job_line job =
    codes "job " ++ job.name ++ codes " " ++ decimal job.release ++ codes " "
    ++ finish_words job.finish ++ codes "\n"

-- a line for each job
abbrev pub job_lines : List JobRecord → List ℕ
job_lines [] = []
job_lines (job ∷ jobs) = job_line job ++ job_lines jobs

-- the slices by time, and then the jobs in the order of the releases
abbrev pub trace_lines : Trace → List ℕ
trace_lines trace = slice_lines trace.jobs.items trace.slices.items ++ job_lines trace.jobs.items
