use Rattle.std.proofs.Common.{◌≡◌, ◌++◌, drop, map}
use Rattle.chain_tables.specs.Chains.{chain_of}
use Rattle.chain_tables.proofs.judging.chains_of.Given as goal

abbrev pub invariant-loop-chain : goal.invariant-loop-chain
invariant-loop-chain l = l.chains.items ++ map (chain_of l.set) (drop l.chain-index l.written)
    ≡ map (chain_of l.set) l.written
