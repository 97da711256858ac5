use Rattle.two_input_commands.proofs.WorstChains.{levels_are_order}
use Rattle.two_input_commands.proofs.worst_at_lines.chain_text.Goals as goal

pub chain_worst_text-requires : goal.chain_worst_text-requires
chain_worst_text-requires c =
    rw (c.deref-3.ensures.value, c.in_ok-levels.ensures, c.deref.ensures.value)
    (levels_are_order c.args.tasks.now c.args.node.now.judged.items c.requires)
