use Rattle.std.proofs.Common.{option_map, string_bytes}
use Rattle.limit_lines.specs.LimitLines.{AreNumberLines}
use Rattle.limit_lines.proofs.text.task_text.Given as goal

abbrev pub invariant-loop-place : goal.invariant-loop-place
invariant-loop-place l =
    AreNumberLines l.owners l.set (option_map (λ o. o.now) l.order) l.task l.place (string_bytes l.text)
