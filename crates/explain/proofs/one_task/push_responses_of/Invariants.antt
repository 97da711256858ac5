use Rattle.std.proofs.Common.{◌≡◌, ◌++◌, ◌+◌, drop, string_bytes}
use Rattle.explain.specs.TaskLines.{response_lines_of}
use Rattle.explain.proofs.one_task.push_responses_of.Given as goal

abbrev pub invariant-loop-below : goal.invariant-loop-below
invariant-loop-below l =
    string_bytes l.text ++ response_lines_of l.owners l.set l.task (l.below + 1) (drop l.below l.accounts)
    ≡ string_bytes l.fn.text ++ response_lines_of l.owners l.set l.task 1 l.accounts
