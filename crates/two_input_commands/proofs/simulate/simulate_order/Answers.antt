use Rattle.std.proofs.Common.{inr, refl}
use Rattle.two_input_commands.proofs.Ordered.{in_order, no_order}
use Rattle.two_input_commands.proofs.simulate.simulate_order.Goals as goal

pub simulate_in-requires : goal.simulate_in-requires
simulate_in-requires c = rw c.deref.ensures.value c.in-Ok.ensures.by_numbers.each_once

pub returns : goal.returns
returns c =
    in_order c.args.tasks.now c.in-Ok.order.items c.args.rows.now c.args.until c.args.releases.items
    c.simulate_in.result c.requires (rw c.of-tabled.ensures at c.in-Ok.ensures)
    (rw (c.of-tabled.ensures, c.deref.ensures.value) at c.simulate_in.ensures)

pub returns-in-Err : goal.returns-in-Err
returns-in-Err c = inr (
  c.args.until,
  c.args.releases.items,
  refl,
  no_order c.args.tasks.now c.in-Err.fault c.args.rows.now c.requires
      (rw c.of-tabled.ensures at c.in-Err.ensures),
)
