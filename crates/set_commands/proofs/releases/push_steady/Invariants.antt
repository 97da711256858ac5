use Rattle.std.proofs.Common.{◌≡◌, ◌++◌, drop}
use Rattle.set_commands.specs.Releases.{steady_tasks}
use Rattle.set_commands.proofs.releases.push_steady.Given as goal

abbrev pub invariant-loop-task : goal.invariant-loop-task
invariant-loop-task l =
    l.steady.items ++ steady_tasks l.known (drop l.task-index l.tasks)
    ≡ l.fn.steady.items ++ steady_tasks l.offsets l.tasks
