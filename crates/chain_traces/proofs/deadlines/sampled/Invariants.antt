use Rattle.std.proofs.Common.{◌≡◌, ◌++◌, drop}
use Rattle.chain_traces.specs.DeadlineOutputs.{sampled}
use Rattle.chain_traces.proofs.deadlines.sampled.Given as goal

abbrev pub invariant-loop-job : goal.invariant-loop-job
invariant-loop-job l =
    l.outputs.items ++ sampled l.set l.end l.task (drop l.job-index l.seen) ≡ sampled l.set l.end l.task l.seen
