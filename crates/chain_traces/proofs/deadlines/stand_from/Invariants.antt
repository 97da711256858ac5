use Rattle.std.proofs.Common.{◌≡◌, length}
use Rattle.chain_traces.specs.DeadlineOutputs.{later_than, standing}
use Rattle.chain_traces.proofs.deadlines.stand_from.Given as goal

abbrev pub invariant-loop-output : goal.invariant-loop-output
invariant-loop-output l = record {
  sample : standing l.time l.sample l.later ≡ standing l.time l.fn.found l.outputs;
  later : later_than l.time l.later ≡ later_than l.time l.outputs;
}

abbrev pub decreases-loop-output : goal.decreases-loop-output
decreases-loop-output l = length l.later
