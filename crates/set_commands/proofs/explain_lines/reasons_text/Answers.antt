use Rattle.set_commands.proofs.explain_lines.reasons_text.Goals as goal

pub returns : goal.returns
returns c = (
  c.in_ok-explanation.explanation,
  c.in_ok-decided.decided.items,
  rw c.of-tabled.ensures at c.in_ok-explanation.ensures,
  rw c.of-tabled.ensures at c.in_ok-decided.ensures,
  rw (c.deref.ensures.value, c.in_ok-text.ensures) at c.in_ok-push_rows.ensures,
)
