-- The outputs of a chain in a trace whose tasks write at their finishes, each with the sample that stands behind it. A job reads as
-- its first slice begins, and writes at its finish.
use Rattle.std.specs.Prelude.{ℕ, nat_le, Bool, false, not, ◌&&◌, ◌==◌, List, [], ◌∷◌, map, Option, Some, None, if◌then◌else◌}
use Rattle.chain_runs.specs.Outputs.{with_output}
use Rattle.chain_runs.specs.declared.outputs.ChainOutput.{ChainOutput}
use Rattle.chain_traces.specs.declared.executions.Execution.{Execution}
use Rattle.chain_traces.specs.declared.outputs.Watch.{Watch}

-- ---- a task
-- before a trace
abbrev pub fresh : ℕ → Watch
fresh task = record { task = task; job = None; finish = None; read = None; written = None }

-- a finish, where there is one, has come
abbrev pub is_over : (time : ℕ) → (finish : Option ℕ) → Bool
is_over time None = false
is_over time (Some finish) = nat_le finish time

-- at a time: a job that has finished has written what it read
abbrev pub settled : (time : ℕ) → Watch → Watch
settled time w =
    if is_over time w.finish
    then record { task = w.task; job = None; finish = None; read = None; written = w.read }
    else w

-- this is the job at a place
abbrev pub is_job : Option ℕ → (place : ℕ) → Bool
is_job None place = false
is_job (Some job) place = job == place

-- a job of the task begins with a slice, and reads what is offered, unless it has begun
abbrev pub begun : Execution → (offered : Option ℕ) → Watch → Watch
begun e offered w =
    if (w.task == e.task) && not (is_job w.job e.job)
    then record { task = w.task; job = Some e.job; finish = e.finish; read = offered; written = w.written }
    else w

-- what comes of a job that has finished
abbrev pub written_at : (finish : Option ℕ) → (read : Option ℕ) → Option ChainOutput
written_at None read = None
written_at (Some finish) read = Some (record { finish = finish; sample = read })

abbrev pub output_by : (time : ℕ) → Watch → Option ChainOutput
output_by time w = if is_over time w.finish then written_at w.finish w.read else None

-- ---- the tasks of a chain, each of which is offered what the one before it has written
abbrev pub along : Execution → (offered : Option ℕ) → List Watch → List Watch
along e offered [] = []
along e offered (w ∷ ws) =
    begun e offered (settled e.start w) ∷ along e (settled e.start w).written ws

-- what comes of the last one
abbrev pub last_output : (found : Option ChainOutput) → (time : ℕ) → List Watch → Option ChainOutput
last_output found time [] = found
last_output found time (w ∷ ws) = last_output (output_by time w) time ws

-- what comes with slices, by time, and until the end; a job of the first task samples as it begins
abbrev pub outputs_from : (end : ℕ) → List Watch → List Execution → List ChainOutput
outputs_from end ws [] = with_output (last_output None end ws) []
outputs_from end ws (e ∷ es) =
    with_output (last_output None e.start ws) (outputs_from end (along e (Some e.start) ws) es)

-- the outputs of a chain of tasks
abbrev pub outputs_in : (end : ℕ) → List Execution → (tasks : List ℕ) → List ChainOutput
outputs_in end es tasks = outputs_from end (map fresh tasks) es
