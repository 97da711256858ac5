use Rattle.std.proofs.Common.{◌∙◌}
use Rattle.two_input_commands.proofs.judge_lines.judge_both.Goals as goal

pub returns : goal.returns
returns c = (
  (c.in_ok-node.node, c.in_ok-node.told),
  rw (c.deref.ensures.value, c.deref-2.ensures.value) at c.in_ok-node.ensures.answer,
  c.new.ensures.text ∙ c.in_ok-text.ensures,
  c.new.ensures.status ∙ rw c.deref-3.ensures.value at c.chained_status.ensures,
)
