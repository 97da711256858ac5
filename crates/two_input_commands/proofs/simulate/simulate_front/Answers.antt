use Rattle.std.proofs.Common.{refl}
use Rattle.two_input_commands.proofs.simulate.simulate_front.Goals as goal

pub returns-in-Err : goal.returns-in-Err
returns-in-Err c = (c.args.front.now.rows.items, refl, c.in-Err.ensures)
