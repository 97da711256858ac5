use Rattle.std.proofs.Common.{◌≡◌, ◌++◌, drop, string_bytes}
use Rattle.diff.specs.Chains.{plus_tasks}
use Rattle.diff.proofs.chain_changes.push_plus_tasks.Given as goal

abbrev pub invariant-loop-task : goal.invariant-loop-task
invariant-loop-task l =
    string_bytes l.text ++ plus_tasks l.set (drop l.task-index l.tasks)
    ≡ string_bytes l.fn.text ++ plus_tasks l.set l.tasks
