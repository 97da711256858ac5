use Rattle.std.proofs.Common.{◌≡◌, ◌++◌, drop, string_bytes}
use Rattle.explain.specs.ExplanationLines.{above_lines}
use Rattle.explain.proofs.text.push_all_above.Given as goal

abbrev pub invariant-loop-task : goal.invariant-loop-task
invariant-loop-task l = string_bytes l.text ++ above_lines l.owners l.set (drop l.task-index l.above)
    ≡ string_bytes l.fn.text ++ above_lines l.owners l.set l.above
