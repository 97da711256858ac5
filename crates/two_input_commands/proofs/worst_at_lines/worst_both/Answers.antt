use Rattle.two_input_commands.proofs.worst_at_lines.worst_both.Goals as goal

pub returns : goal.returns
returns c = (
  c.in_ok-found.found,
  rw (c.deref.ensures.value, c.deref-2.ensures.value) at c.in_ok-found.ensures,
  c.in_ok-answer.ensures.text,
  c.in_ok-answer.ensures.status,
)
