use Rattle.std.proofs.Common.{option_map, string_bytes}
use Rattle.limit_lines.specs.Common.{AreInterruptsLines}
use Rattle.limit_lines.proofs.common.interrupts_text.Given as goal

abbrev pub invariant-loop-task : goal.invariant-loop-task
invariant-loop-task l =
    AreInterruptsLines l.owners l.set (option_map (λ o. o.now) l.order) l.task (string_bytes l.text)
