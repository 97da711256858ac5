use Rattle.std.proofs.Common.{◌≡◌, ◌++◌, drop, map}
use Rattle.chain_traces.specs.Outputs.{fresh, outputs_from}
use Rattle.chain_traces.proofs.outputs.outputs_in.Given as goal

abbrev pub invariant-loop-execution : goal.invariant-loop-execution
invariant-loop-execution l =
    l.outputs.items ++ outputs_from l.end l.watches.items (drop l.execution-index l.executions)
    ≡ outputs_from l.end (map fresh l.tasks) l.executions
