use Rattle.std.proofs.Common.{◌≡◌, ◌++◌, [], drop, map}
use Rattle.chains.specs.Walks.{steps_with}
use Rattle.chain_tables.specs.Chains.{index_of, steps_in}
use Rattle.chain_tables.proofs.clocks.steps_in.Given as goal

abbrev pub invariant-loop-task : goal.invariant-loop-task
invariant-loop-task l = l.steps.items
    ++ steps_with l.set l.offsets [] (map (index_of l.set) (drop l.task-index l.chain.tasks))
    ≡ steps_in l.set l.chain
