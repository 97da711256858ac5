use Rattle.std.proofs.Common.{◌≡◌, ◌++◌, drop, string_bytes}
use Rattle.diff.specs.Chains.{chain_gone, each_chain}
use Rattle.diff.proofs.chain_changes.push_all_gone.Given as goal

abbrev pub invariant-loop-chain : goal.invariant-loop-chain
invariant-loop-chain l =
    string_bytes l.text
    ++ each_chain (chain_gone l.old.set.now l.old.levels.now l.new.chains.now)
    (drop l.chain-index l.old.chains.now)
    ≡ string_bytes l.fn.text
    ++ each_chain (chain_gone l.old.set.now l.old.levels.now l.new.chains.now)
    l.old.chains.now
