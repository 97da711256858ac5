use Rattle.std.proofs.Common.{◌≡◌, drop}
use Rattle.task_sheet.proofs.Common.{indexes_of, tasks_of}
use Rattle.cert_checker.specs.Ready.{failures_of}
use Rattle.cert_checker.specs.CertificateFaults.{are_lesser}
use Rattle.cert_checker.proofs.levels.are_lesser.Given as goal

abbrev pub invariant-loop-fail : goal.invariant-loop-fail
invariant-loop-fail l = are_lesser (indexes_of l.left) l.from l.chosen
    (tasks_of (failures_of l.set (drop l.fail-index l.fails)))
    ≡ are_lesser (indexes_of l.left) 0 l.chosen (tasks_of (failures_of l.set l.fails))
