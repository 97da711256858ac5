-- The outputs of a chain in a run whose tasks write at their finishes. Each task has a register that keeps what its last
-- finished job wrote; a job reads the register of the task before it when it begins, and writes its own when it finishes. Of
-- what is written only the sample counts that stands behind it.
use Rattle.std.specs.Prelude.{ℕ, false, not, ◌&&◌, ◌==◌, List, [], ◌∷◌, Option, Some, None, if◌then◌else◌}
use Rattle.chain_runs.specs.declared.slices.TaskSlice.{TaskSlice}
use Rattle.chain_runs.specs.declared.outputs.ChainOutput.{ChainOutput}
use Rattle.chain_runs.specs.declared.outputs.Station.{Station}

-- ---- a task
-- before a run
abbrev pub fresh : ℕ → Station
fresh task = record { task = task; runs = false; read = None; written = None }

-- what the job of a task has read that executes in a slice: as it began, or what is offered now
abbrev pub read_by : Station → (offered : Option ℕ) → Option ℕ
read_by st offered = if st.runs then st.read else offered

-- after a slice of a job of its own
abbrev pub after_own : TaskSlice → (offered : Option ℕ) → Station → Station
after_own s offered st =
    record {
      task = st.task;
      runs = not s.ends;
      read = read_by st offered;
      written = if s.ends then read_by st offered else st.written;
    }

-- after any slice
abbrev pub after_slice : TaskSlice → (offered : Option ℕ) → Station → Station
after_slice s offered st = if st.task == s.task then after_own s offered st else st

-- what it writes with a slice
abbrev pub output_at : TaskSlice → (offered : Option ℕ) → Station → Option ChainOutput
output_at s offered st =
    if (st.task == s.task) && s.ends
    then Some (record { finish = s.stop; sample = read_by st offered })
    else None

-- ---- the tasks of a chain, each of which is offered what the one before it has written
abbrev pub along : TaskSlice → (offered : Option ℕ) → List Station → List Station
along s offered [] = []
along s offered (st ∷ sts) = after_slice s offered st ∷ along s st.written sts

-- what comes of the last one
abbrev pub last_output : Option ChainOutput → TaskSlice → (offered : Option ℕ) → List Station
    → Option ChainOutput
last_output found s offered [] = found
last_output found s offered (st ∷ sts) = last_output (output_at s offered st) s st.written sts

abbrev pub with_output : Option ChainOutput → List ChainOutput → List ChainOutput
with_output None outputs = outputs
with_output (Some output) outputs = output ∷ outputs

-- what comes with slices, by time; a job of the first task samples as it begins
abbrev pub outputs_from : List Station → List TaskSlice → List ChainOutput
outputs_from sts [] = []
outputs_from sts (s ∷ ss) =
    with_output (last_output None s (Some s.start) sts)
    (outputs_from (along s (Some s.start) sts) ss)
