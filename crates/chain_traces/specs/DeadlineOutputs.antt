-- The outputs of a chain in a trace whose tasks write at their deadlines (logical execution time; Henzinger et al. 2003). Of a job
-- only its arrival counts, and not when it executes: it reads as it arrives, and writes a deadline later. Who reads at the instant
-- of a write reads what was written then.
use Rattle.std.specs.Prelude.{ℕ, ◌+◌, ◌==◌, ◌&&◌, nat_le, if◌then◌else◌, List, [], ◌∷◌, Option, Some, None}
use Rattle.task_sheet.specs.Sheet.{Task, task_at}
use Rattle.observed.specs.SeenJob.{SeenData}
use Rattle.chain_runs.specs.Outputs.{with_output}
use Rattle.chain_runs.specs.declared.outputs.ChainOutput.{ChainOutput}

-- ---- what a job reads
-- the sample behind what stands at a time, of outputs by time behind one that was found before
abbrev pub standing : (time : ℕ) → (found : Option ℕ) → List ChainOutput → Option ℕ
standing time found [] = found
standing time found (o ∷ os) =
    if nat_le o.finish time then standing time o.sample os else found

-- the outputs that come later
abbrev pub later_than : (time : ℕ) → List ChainOutput → List ChainOutput
later_than time [] = []
later_than time (o ∷ os) = if nat_le o.finish time then later_than time os else o ∷ os

-- ---- a task
-- what a job writes, where it is one of this task, and its deadline comes by the end
abbrev pub output_of : List Task → (end task : ℕ) → (read : Option ℕ) → SeenData → Option ChainOutput
output_of U end task read s =
    if (s.promise.task == task) && nat_le (s.arrival + (task_at U task).deadline) end
    then Some (record { finish = s.arrival + (task_at U task).deadline; sample = read })
    else None

-- what comes of a chain's first task, whose jobs sample as they arrive
abbrev pub sampled : List Task → (end task : ℕ) → List SeenData → List ChainOutput
sampled U end task [] = []
sampled U end task (s ∷ ss) =
    with_output (output_of U end task (Some s.arrival) s) (sampled U end task ss)

-- what comes of another, whose jobs read what has come of the one before it
abbrev pub handed_on : List Task → (end task : ℕ) → (written : List ChainOutput) → List SeenData
    → List ChainOutput
handed_on U end task written [] = []
handed_on U end task written (s ∷ ss) =
    with_output (output_of U end task (standing s.arrival None written) s)
    (handed_on U end task written ss)

-- ---- a chain
-- what comes of the last of these tasks, behind one of which this has come
abbrev pub outputs_behind : List Task → (end : ℕ) → (written : List ChainOutput) → (tasks : List ℕ)
    → List SeenData → List ChainOutput
outputs_behind U end written [] seen = written
outputs_behind U end written (task ∷ others) seen =
    outputs_behind U end (handed_on U end task written seen) others seen

-- what comes of a chain of tasks until the end, by time, where these jobs are seen, by their arrivals
abbrev pub deadline_outputs : List Task → (end : ℕ) → (tasks : List ℕ) → List SeenData → List ChainOutput
deadline_outputs U end [] seen = []
deadline_outputs U end (first ∷ others) seen =
    outputs_behind U end (sampled U end first seen) others seen
