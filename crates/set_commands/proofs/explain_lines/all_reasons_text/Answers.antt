use Rattle.set_commands.proofs.explain_lines.all_reasons_text.Goals as goal

pub returns : goal.returns
returns c = (
  c.in_ok-explanation.explanation,
  c.in_ok-decided.decided.items,
  rw c.of-tabled.ensures at c.in_ok-explanation.ensures,
  rw (c.of-tabled.ensures, c.parted_of.ensures, c.is_short-short.ensures) at
      c.in_ok-decided.ensures,
  rw c.is_short-short.ensures at c.in_ok-text.ensures,
)
