use Rattle.std.proofs.Common.{◌≡◌, ◌++◌, string_bytes}
use Rattle.task_sheet.specs.Indexes.{indexes_of, listed_below}
use Rattle.lines.specs.Naming.{named}
use Rattle.lines.proofs.naming.push_names.Given as goal

abbrev pub invariant-loop-task : goal.invariant-loop-task
invariant-loop-task l = string_bytes l.text ≡ string_bytes l.fn.text
    ++ named l.set (listed_below l.task (indexes_of l.fn.tasks))
