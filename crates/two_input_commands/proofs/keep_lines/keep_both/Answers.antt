use Rattle.std.proofs.Common.{◌∙◌, ap}
use Rattle.two_input_commands.proofs.keep_lines.keep_both.Goals as goal

pub returns : goal.returns
returns c = (
  c.in_ok-node.node,
  rw (c.deref.ensures.value, c.deref-2.ensures.value) at c.in_ok-node.ensures.answer,
  ap (λ v. v.items) c.into_bytes.ensures.value ∙ c.in_ok-text.ensures,
  c.keeping_status.ensures,
)
