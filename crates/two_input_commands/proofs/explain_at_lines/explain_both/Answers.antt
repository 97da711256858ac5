use Rattle.std.proofs.Common.{◌∙◌, ap}
use Rattle.two_input_commands.proofs.explain_at_lines.explain_both.Goals as goal

pub returns : goal.returns
returns c = (
  (c.in_ok-found.found, c.in_ok-found.told),
  rw (c.deref.ensures.value, c.deref-2.ensures.value) at c.in_ok-found.ensures.answer,
  ap (λ v. v.items) c.into_bytes.ensures.value ∙ rw c.deref-3.ensures.value at c.in_ok-text.ensures,
  rw c.deref-4.ensures.value at c.chained_status.ensures,
)
