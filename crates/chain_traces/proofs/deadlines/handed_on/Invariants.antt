use Rattle.std.proofs.Common.{◌≡◌, ◌++◌, drop, None}
use Rattle.chain_traces.specs.DeadlineOutputs.{handed_on, later_than, standing}
use Rattle.chain_traces.proofs.deadlines.handed_on.Given as goal

abbrev pub invariant-loop-job : goal.invariant-loop-job
invariant-loop-job l = record {
  sample : l.standing.sample ≡ standing l.standing.time None l.written;
  later : l.standing.later.now ≡ later_than l.standing.time l.written;
  outputs : l.outputs.items ++ handed_on l.set l.end l.task l.written (drop l.job-index l.seen)
      ≡ handed_on l.set l.end l.task l.written l.seen;
}
