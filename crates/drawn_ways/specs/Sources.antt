-- What the outputs of a run's chains come from.
use Rattle.std.specs.Prelude.{ℕ, List, map}
use Rattle.chain_runs.specs.Outputs.{fresh, outputs_from}
use Rattle.chain_runs.specs.DeadlineOutputs.{blank, outputs_by}
use Rattle.chain_runs.specs.declared.outputs.ChainOutput.{ChainOutput}
use Rattle.drawn_ways.specs.declared.sources.Source.{Source}
use Rattle.drawn_ways.specs.declared.sources.Source.TheVariants.{Slices, Intervals}

-- the outputs of a chain of tasks
abbrev pub outputs_in : Source → (tasks : List ℕ) → List ChainOutput
outputs_in (Slices slices) tasks = outputs_from (map fresh tasks) slices.items
outputs_in (Intervals until intervals) tasks = outputs_by until (map blank tasks) intervals.items
