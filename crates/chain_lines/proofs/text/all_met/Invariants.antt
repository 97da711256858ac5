use Rattle.std.proofs.Common.{◌≡◌, drop}
use Rattle.chain_lines.specs.ChainLines.{all_met}
use Rattle.chain_lines.proofs.text.all_met.Given as goal

abbrev pub invariant-loop-chain : goal.invariant-loop-chain
invariant-loop-chain l =
    all_met l.set l.levels (drop l.chain-index l.chains) ≡ all_met l.set l.levels l.chains
