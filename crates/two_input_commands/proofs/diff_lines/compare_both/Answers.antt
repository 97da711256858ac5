use Rattle.two_input_commands.proofs.diff_lines.compare_both.Goals as goal

pub returns : goal.returns
returns c = (
  c.in_ok-compared.compared,
  rw (c.deref.ensures.value, c.deref-2.ensures.value) at c.in_ok-compared.ensures,
  rw c.deref-3.ensures.value at c.in_ok-text.ensures,
  c.placing_status.ensures,
)
