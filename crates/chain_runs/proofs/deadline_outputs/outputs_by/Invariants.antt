use Rattle.std.proofs.Common.{◌≡◌, ◌++◌, drop, map}
use Rattle.chain_runs.specs.DeadlineOutputs.{blank, outputs_by}
use Rattle.chain_runs.proofs.deadline_outputs.outputs_by.Given as goal

abbrev pub invariant-loop-interval : goal.invariant-loop-interval
invariant-loop-interval l =
    l.outputs.items ++ outputs_by l.until l.registers.items (drop l.interval-index l.intervals)
    ≡ outputs_by l.until (map blank l.tasks) l.intervals
