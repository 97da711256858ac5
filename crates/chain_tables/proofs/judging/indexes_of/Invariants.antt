use Rattle.std.proofs.Common.{◌≡◌, ◌++◌, drop, map}
use Rattle.chain_tables.specs.Chains.{index_of}
use Rattle.chain_tables.proofs.judging.indexes_of.Given as goal

abbrev pub invariant-loop-name : goal.invariant-loop-name
invariant-loop-name l = l.tasks.items ++ map (index_of l.set) (drop l.name-index l.names)
    ≡ map (index_of l.set) l.names
