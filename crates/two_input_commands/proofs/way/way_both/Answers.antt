use Rattle.std.proofs.Common.{refl}
use Rattle.two_input_commands.proofs.way.way_both.Goals as goal

pub returns : goal.returns
returns c = (
  c.in_ok-found.found,
  rw (c.deref.ensures.value, c.deref-2.ensures.value) at c.in_ok-found.ensures.answer,
  refl,
  c.simulation_status-status.ensures,
)
