use Rattle.std.proofs.Common.{◌≡◌, None}
use Rattle.task_sheet.proofs.Common.{indexes_of, tasks_of}
use Rattle.cert_checker.specs.Ready.{failures_of}
use Rattle.cert_checker.specs.CertificateFaults.{first_unnamed}
use Rattle.cert_checker.proofs.levels.first_unnamed.Given as goal

abbrev pub invariant-loop-k : goal.invariant-loop-k
invariant-loop-k l =
    first_unnamed (indexes_of l.left) (tasks_of (failures_of l.set l.fails)) l.k ≡ None
