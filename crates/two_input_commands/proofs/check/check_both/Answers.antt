use Rattle.two_input_commands.proofs.check.check_both.Goals as goal

pub returns : goal.returns
returns c = (
  c.in_ok-shown.shown,
  rw (c.deref.ensures.value, c.deref-2.ensures.value) at c.in_ok-shown.ensures,
  c.new.ensures.text,
  c.new.ensures.status,
)
