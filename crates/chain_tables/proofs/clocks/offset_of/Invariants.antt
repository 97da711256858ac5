use Rattle.std.proofs.Common.{◌≡◌, drop}
use Rattle.chain_tables.specs.Chains.{offset_of}
use Rattle.chain_tables.proofs.clocks.offset_of.Given as goal

abbrev pub invariant-loop-chain : goal.invariant-loop-chain
invariant-loop-chain l = offset_of (drop l.chain-index l.chains) l.task ≡ offset_of l.chains l.task
