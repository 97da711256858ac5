use Rattle.two_input_commands.proofs.observe_lines.observe_both.Goals as goal

pub returns : goal.returns
returns c = (
  (c.in_ok-shown.shown, c.in_ok-shown.told),
  rw (c.deref.ensures.value, c.deref-2.ensures.value) at c.in_ok-shown.ensures.answer,
  c.in_ok-text.ensures,
  c.observation_status.ensures,
)
