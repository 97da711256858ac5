use Rattle.std.proofs.Common.{◌≡◌, ◌++◌, drop, string_bytes}
use Rattle.chain_runs.specs.RunChainLines.{run_chains_said}
use Rattle.chain_runs.proofs.text.run_chains_text.Given as goal

abbrev pub invariant-loop-chain : goal.invariant-loop-chain
invariant-loop-chain l =
    string_bytes l.text ++ run_chains_said l.set l.levels l.until l.trace (drop l.chain-index l.chains)
    ≡ run_chains_said l.set l.levels l.until l.trace l.chains
