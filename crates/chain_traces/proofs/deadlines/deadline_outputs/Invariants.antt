use Rattle.std.proofs.Common.{◌≡◌, drop}
use Rattle.chain_traces.specs.DeadlineOutputs.{deadline_outputs, outputs_behind}
use Rattle.chain_traces.proofs.deadlines.deadline_outputs.Given as goal

abbrev pub invariant-loop-task : goal.invariant-loop-task
invariant-loop-task l =
    outputs_behind l.set l.end l.outputs.items (drop l.task-index l.others) l.seen
    ≡ deadline_outputs l.set l.end l.tasks l.seen
