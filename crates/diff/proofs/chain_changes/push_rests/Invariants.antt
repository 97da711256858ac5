use Rattle.std.proofs.Common.{◌≡◌, ◌++◌, drop, string_bytes}
use Rattle.diff.specs.Chains.{chain_rest, each_chain}
use Rattle.diff.proofs.chain_changes.push_rests.Given as goal

abbrev pub invariant-loop-chain : goal.invariant-loop-chain
invariant-loop-chain l =
    string_bytes l.text
    ++ each_chain (chain_rest l.old.set.now l.old.levels.now l.old.chains.now l.new.set.now l.new.levels.now)
    (drop l.chain-index l.new.chains.now)
    ≡ string_bytes l.fn.text
    ++ each_chain (chain_rest l.old.set.now l.old.levels.now l.old.chains.now l.new.set.now l.new.levels.now)
    l.new.chains.now
