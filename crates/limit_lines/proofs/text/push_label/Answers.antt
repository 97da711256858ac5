use Rattle.std.proofs.Common.{arith}
use Rattle.limit_lines.proofs.text.push_label.Goals as goal

pub overflow_add-count : goal.overflow_add-count
overflow_add-count c = omega (arith, c.requires c.in-Len.place _ c.in-Len.is)
