use Rattle.std.proofs.Common.{◌≡◌, ◌++◌, drop, map}
use Rattle.chain_traces.specs.TraceChainLines.{level_of}
use Rattle.chain_traces.proofs.text.levels_of.Given as goal

abbrev pub invariant-loop-promise : goal.invariant-loop-promise
invariant-loop-promise l =
    l.levels.items ++ map level_of (drop l.promise-index l.promises) ≡ map level_of l.promises
