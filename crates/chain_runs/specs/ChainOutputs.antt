-- The outputs of a chain in a run that ends at a time, by when its tasks write.
use Rattle.std.specs.Prelude.{ℕ, List, map}
use Rattle.task_sheet.specs.Sheet.{Task}
use Rattle.ceiling_kernel.specs.declared.trace.Trace.{Trace}
use Rattle.chains.specs.declared.bounds.Writes.{Writes}
use Rattle.chains.specs.declared.bounds.Writes.TheVariants.{AtFinish, AtDeadline}
use Rattle.chain_runs.specs.Slices.{slices_of}
use Rattle.chain_runs.specs.Outputs.{fresh, outputs_from}
use Rattle.chain_runs.specs.DeadlineOutputs.{blank, intervals_of, outputs_by}
use Rattle.chain_runs.specs.declared.outputs.ChainOutput.{ChainOutput}

abbrev pub outputs_of : Writes → List Task → (until : ℕ) → Trace → (tasks : List ℕ) → List ChainOutput
outputs_of AtFinish U until trace tasks = outputs_from (map fresh tasks) (slices_of U trace)
outputs_of AtDeadline U until trace tasks =
    outputs_by until (map blank tasks) (intervals_of U trace)
