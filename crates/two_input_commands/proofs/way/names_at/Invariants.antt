use Rattle.std.proofs.Common.{◌≡◌, ◌++◌, drop}
use Rattle.two_input_commands.specs.Way.{names_at}
use Rattle.two_input_commands.proofs.way.names_at.Given as goal

abbrev pub invariant-loop-task : goal.invariant-loop-task
invariant-loop-task l =
    l.names.items ++ names_at l.set (drop l.task-index l.tasks) ≡ names_at l.set l.tasks
