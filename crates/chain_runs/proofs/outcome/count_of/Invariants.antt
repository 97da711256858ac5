use Rattle.std.proofs.Common.{◌≡◌, ◌+◌, ◌≤◌, drop}
use Rattle.chain_runs.specs.Outcomes.{count_of}
use Rattle.chain_runs.proofs.outcome.count_of.Given as goal

abbrev pub invariant-loop-output : goal.invariant-loop-output
invariant-loop-output l = record {
  count : l.count + count_of (drop l.output-index l.outputs) ≡ count_of l.outputs;
  room : l.count ≤ l.output-index;
}
