use Rattle.std.proofs.Common.{◌≡◌, ◌++◌, drop, string_bytes}
use Rattle.explain.specs.TaskLines.{needs_lines_of}
use Rattle.explain.proofs.one_task.push_needs_of.Given as goal

abbrev pub invariant-loop-need : goal.invariant-loop-need
invariant-loop-need l =
    string_bytes l.text ++ needs_lines_of l.owners l.set l.task (drop l.need-index l.needs)
    ≡ string_bytes l.fn.text ++ needs_lines_of l.owners l.set l.task l.needs
