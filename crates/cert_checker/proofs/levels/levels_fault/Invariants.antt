use Rattle.std.proofs.Common.{◌≡◌, ◌+◌, drop}
use Rattle.task_sheet.proofs.Common.{indexes_of, all_of}
use Rattle.cert_checker.specs.CertificateFaults.{levels_fault}
use Rattle.cert_checker.proofs.levels.levels_fault.Given as goal

abbrev pub invariant-loop-i : goal.invariant-loop-i
invariant-loop-i l = levels_fault l.set l.asked (l.i + 1) (indexes_of l.left) (drop l.i l.levels)
    ≡ levels_fault l.set l.asked 1 (all_of l.set) l.levels
