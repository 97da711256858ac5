use Rattle.std.proofs.Common.{◌≡◌, ◌++◌, take}
use Rattle.answering.specs.Owning.{clocked_by}
use Rattle.answering.proofs.sets.owners_of.Given as goal

abbrev pub invariant-loop-chain : goal.invariant-loop-chain
invariant-loop-chain l = l.owners.items
    ≡ l.initial.owners.items ++ clocked_by (take l.chain-index l.chains)
