use Rattle.std.proofs.Common.{◌≡◌, length}
use Rattle.chain_tables.specs.Chains.{bad_offset_in}
use Rattle.chain_tables.proofs.clocks.bad_offset_in.Given as goal

abbrev pub invariant-loop-task : goal.invariant-loop-task
invariant-loop-task l = bad_offset_in l.set l.before l.chain.name l.tasks l.offsets
    ≡ bad_offset_in l.set l.before l.chain.name l.chain.tasks l.chain.offsets

abbrev pub decreases-loop-task : goal.decreases-loop-task
decreases-loop-task l = length l.tasks
