use Rattle.set_commands.proofs.WorstChains.{levels_are_order}
use Rattle.set_commands.proofs.worst.chain_text.Goals as goal

pub chain_worst_text-requires : goal.chain_worst_text-requires
chain_worst_text-requires c =
    rw (c.requires.levels, c.in-Best.is) (levels_are_order c.args.set.now c.in-Best.field-0.items (rw c.in-Best.is at c.requires.placing))
