use Rattle.std.proofs.Common.{◌≡◌}
use Rattle.task_sheet.specs.Indexes.{indexes_of, listed_below}
use Rattle.worst_lines.specs.Below.{others_of}
use Rattle.worst_lines.proofs.below.others.Given as goal

abbrev pub invariant-loop-task : goal.invariant-loop-task
invariant-loop-task l =
    l.others.items ≡ listed_below l.task (others_of l.set (indexes_of l.conflict))
