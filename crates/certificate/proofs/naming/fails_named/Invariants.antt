use Rattle.std.proofs.Common.{◌≡◌, take}
use Rattle.certificate.specs.CertificateOf.{fails_named}
use Rattle.certificate.proofs.naming.fails_named.Given as goal

abbrev pub invariant-loop-failure : goal.invariant-loop-failure
invariant-loop-failure l = l.fails.items ≡ fails_named l.set (take l.failure-index l.failures)
