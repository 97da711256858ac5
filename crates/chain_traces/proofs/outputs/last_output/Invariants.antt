use Rattle.std.proofs.Common.{◌≡◌, drop, None}
use Rattle.chain_traces.specs.Outputs.{last_output}
use Rattle.chain_traces.proofs.outputs.last_output.Given as goal

abbrev pub invariant-loop-watch : goal.invariant-loop-watch
invariant-loop-watch l =
    last_output l.found l.time (drop l.watch-index l.watches) ≡ last_output None l.time l.watches
