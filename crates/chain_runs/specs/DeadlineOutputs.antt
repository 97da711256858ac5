-- The outputs of a chain in a run whose tasks write at their deadlines (logical execution time; Henzinger et al. 2003).
-- Of a job only the interval from its arrival to its deadline counts, not when it executes in it. As the interval
-- begins, the job reads what the register of the task before it shows; as it ends, the job writes its own. Who reads at
-- the instant of a write reads what was written then.
use Rattle.std.specs.Prelude.{ℕ, ◌+◌, nat_le, ◌&&◌, ◌==◌, List, [], ◌∷◌, map, Option, Some, None, if◌then◌else◌}
use Rattle.task_sheet.specs.Sheet.{Task, task_at}
use Rattle.ceiling_kernel.specs.declared.trace.JobRecord.{JobRecord}
use Rattle.ceiling_kernel.specs.declared.trace.Trace.{Trace}
use Rattle.chain_runs.specs.Outputs.{with_output}
use Rattle.chain_runs.specs.Slices.{task_of}
use Rattle.chain_runs.specs.declared.deadline_outputs.Interval.{Interval}
use Rattle.chain_runs.specs.declared.deadline_outputs.Register.{Register}
use Rattle.chain_runs.specs.declared.outputs.ChainOutput.{ChainOutput}

-- ---- the intervals of jobs
-- of a job of task i that arrives at a time
abbrev pub interval_from : List Task → (i arrival : ℕ) → Interval
interval_from U i arrival =
    record { task = i; start = arrival; stop = arrival + (task_at U i).deadline }

abbrev pub interval_of : List Task → JobRecord → Interval
interval_of U job = interval_from U (task_of U job) job.release

-- those of a run, by arrival
abbrev pub intervals_of : List Task → Trace → List Interval
intervals_of U trace = map (interval_of U) trace.jobs.items

-- ---- a task
-- before a run
abbrev pub blank : ℕ → Register
blank task = record { task = task; writes_at = 0; read = None; written = None }

-- what its register shows at a time: what its last job has read, once that is written
abbrev pub shown_at : Register → (t : ℕ) → Option ℕ
shown_at r t = if nat_le r.writes_at t then r.read else r.written

-- when an interval begins: a job of its own has read what is offered
abbrev pub after_start : Interval → (offered : Option ℕ) → Register → Register
after_start v offered r =
    if r.task == v.task
    then record { task = r.task; writes_at = v.stop; read = offered; written = shown_at r v.start }
    else r

-- what it writes as the interval ends, where that is in the run
abbrev pub output_by : (until : ℕ) → Interval → (offered : Option ℕ) → Register → Option ChainOutput
output_by until v offered r =
    if (r.task == v.task) && nat_le v.stop until
    then Some (record { finish = v.stop; sample = offered })
    else None

-- ---- the tasks of a chain, each of which is offered what the register of the one before it shows
abbrev pub handed_on : Interval → (offered : Option ℕ) → List Register → List Register
handed_on v offered [] = []
handed_on v offered (r ∷ rs) = after_start v offered r ∷ handed_on v (shown_at r v.start) rs

-- what comes of the last one
abbrev pub last_by : (until : ℕ) → Option ChainOutput → Interval → (offered : Option ℕ) → List Register
    → Option ChainOutput
last_by until found v offered [] = found
last_by until found v offered (r ∷ rs) =
    last_by until (output_by until v offered r) v (shown_at r v.start) rs

-- what comes of intervals, by time, until the end of the run; a job of the first task samples as it arrives
abbrev pub outputs_by : (until : ℕ) → List Register → List Interval → List ChainOutput
outputs_by until rs [] = []
outputs_by until rs (v ∷ vs) =
    with_output (last_by until None v (Some v.start) rs)
    (outputs_by until (handed_on v (Some v.start) rs) vs)
