use Rattle.std.proofs.Common.{sym, ◌∙◌}
use Rattle.task_sheet.proofs.Common.{indexes_of, tasks_of}
use Rattle.cert_checker.specs.Ready.{failures_of}
use Rattle.cert_checker.proofs.LevelSteps.{missing-at}
use Rattle.cert_checker.proofs.levels.first_unnamed.Goals as goal

pub returns-then-not-has_failure-clause-is : goal.returns-then-not-has_failure-clause-is
returns-then-not-has_failure-clause-is c =
    sym (missing-at (indexes_of c.args.left) (tasks_of (failures_of c.args.set.now
    c.args.fails.now)) c.loop-k.k c.args.chosen c.loop-k-test.true c.loop-k.invariant
    (sym c.has.ensures ∙ c.if-has.true) (sym c.has_failure.ensures ∙ c.if-not-has_failure.true))
