use Rattle.std.proofs.Common.{◌≡◌, ◌++◌, drop, map}
use Rattle.chain_runs.specs.Outputs.{fresh, outputs_from}
use Rattle.chain_runs.proofs.outputs.outputs_from.Given as goal

abbrev pub invariant-loop-slice : goal.invariant-loop-slice
invariant-loop-slice l =
    l.outputs.items ++ outputs_from l.stations.items (drop l.slice-index l.slices)
    ≡ outputs_from (map fresh l.tasks) l.slices
