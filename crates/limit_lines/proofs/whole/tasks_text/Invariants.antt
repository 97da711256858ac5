use Rattle.std.proofs.Common.{option_map, string_bytes}
use Rattle.limit_lines.specs.Whole.{AreLines}
use Rattle.limit_lines.proofs.whole.tasks_text.Given as goal

abbrev pub invariant-loop-task : goal.invariant-loop-task
invariant-loop-task l = AreLines l.owners l.set (option_map (λ o. o.now) l.order) (option_map (λ p. p.now) l.places)
    l.task (string_bytes l.text)
