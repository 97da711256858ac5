use Rattle.std.proofs.Common.{◌≡◌, drop}
use Rattle.task_sheet.specs.Indexes.{indexes_of}
use Rattle.cert_checker.specs.CertificateFaults.{bad_fail}
use Rattle.cert_checker.proofs.refuting.bad_fail.Given as goal

abbrev pub invariant-loop-fail : goal.invariant-loop-fail
invariant-loop-fail l = bad_fail l.set l.place (indexes_of l.left) (drop l.fail-index l.fails)
    ≡ bad_fail l.set l.place (indexes_of l.left) l.fails
