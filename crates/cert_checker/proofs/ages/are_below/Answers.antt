use Rattle.std.proofs.Common.{◌∙◌, drop}
use Rattle.cert_checker.proofs.StartLaws.{none_known}
use Rattle.cert_checker.proofs.ages.are_below.Goals as goal

pub returns-in_default : goal.returns-in_default
returns-in_default c =
    none_known c.args.set.now c.loop-task.known.now (drop c.loop-task.task-index c.args.tasks.now)
    c.in_default.ensures.cases ∙ c.loop-task.invariant
