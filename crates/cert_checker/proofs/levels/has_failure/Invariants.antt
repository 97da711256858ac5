use Rattle.std.proofs.Common.{◌≡◌, drop}
use Rattle.task_sheet.proofs.Common.{among, tasks_of}
use Rattle.cert_checker.specs.Ready.{failures_of}
use Rattle.cert_checker.proofs.levels.has_failure.Given as goal

abbrev pub invariant-loop-fail : goal.invariant-loop-fail
invariant-loop-fail l = among (tasks_of (failures_of l.set (drop l.fail-index l.fails))) l.task
    ≡ among (tasks_of (failures_of l.set l.fails)) l.task
