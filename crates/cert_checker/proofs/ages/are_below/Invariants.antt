use Rattle.std.proofs.Common.{◌≡◌, [], drop}
use Rattle.chains.specs.Walks.{are_below, steps_with}
use Rattle.cert_checker.proofs.ages.are_below.Given as goal

abbrev pub invariant-loop-task : goal.invariant-loop-task
invariant-loop-task l =
    are_below (steps_with l.set l.known [] (drop l.task-index l.tasks))
    ≡ are_below (steps_with l.set l.offsets [] l.tasks)
