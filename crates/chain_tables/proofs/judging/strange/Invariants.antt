use Rattle.std.proofs.Common.{◌≡◌, drop}
use Rattle.chain_tables.specs.Chains.{strange}
use Rattle.chain_tables.proofs.judging.strange.Given as goal

abbrev pub invariant-loop-chain : goal.invariant-loop-chain
invariant-loop-chain l = strange l.set (drop l.chain-index l.chains) ≡ strange l.set l.chains
