use Rattle.two_input_commands.proofs.simulate.run_best.Goals as goal

pub run_order-requires : goal.run_order-requires
run_order-requires c =
    rw (c.deref.ensures.value, c.in_ok-order.ensures) c.requires.passing.each_once

pub returns : goal.returns
returns c = rw (c.deref.ensures.value, c.in_ok-order.ensures) at c.run_order.ensures
