use Rattle.std.proofs.Common.{◌≡◌, [], drop}
use Rattle.chains.specs.Walks.{are_whole, steps_with}
use Rattle.cert_checker.proofs.ages.are_whole.Given as goal

abbrev pub invariant-loop-task : goal.invariant-loop-task
invariant-loop-task l =
    are_whole (steps_with l.set [] [] (drop l.task-index l.tasks)) l.time
    ≡ are_whole (steps_with l.set [] [] l.tasks) l.time
