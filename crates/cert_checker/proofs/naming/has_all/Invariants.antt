use Rattle.std.proofs.Common.{◌≡◌, true}
use Rattle.task_sheet.specs.Indexes.{indexes_of}
use Rattle.cert_checker.specs.CertificateFaults.{has_all}
use Rattle.cert_checker.proofs.naming.has_all.Given as goal

abbrev pub invariant-loop-k : goal.invariant-loop-k
invariant-loop-k l = has_all l.k (indexes_of l.seen) ≡ true
