use Rattle.std.proofs.Common.{◌≡◌, ◌++◌, drop}
use Rattle.chains.specs.Walks.{steps_with}
use Rattle.least_chains.proofs.steps.bound_with.Given as goal

-- those of the tasks that are left go on with these
abbrev pub invariant-loop-task : goal.invariant-loop-task
invariant-loop-task l =
    l.steps.items ++ steps_with l.set l.known l.left (drop l.task-index l.tasks)
    ≡ steps_with l.set l.offsets l.parts l.tasks
