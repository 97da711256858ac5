use Rattle.std.proofs.Common.{◌≡◌, ◌++◌, drop, string_bytes}
use Rattle.chain_lines.specs.ChainLines.{chains_said}
use Rattle.chain_lines.proofs.text.chains_text.Given as goal

abbrev pub invariant-loop-chain : goal.invariant-loop-chain
invariant-loop-chain l =
    string_bytes l.text ++ chains_said l.telling l.set l.levels l.rest (drop l.chain-index l.chains)
    ≡ chains_said l.telling l.set l.levels l.leasts l.chains
