use Rattle.std.proofs.Common.{◌≡◌, take}
use Rattle.certificate.specs.CertificateOf.{levels_named}
use Rattle.certificate.proofs.naming.best_named.Given as goal

abbrev pub invariant-loop-level : goal.invariant-loop-level
invariant-loop-level l = l.named.items ≡ levels_named l.set (take l.level-index l.fn.best.levels)
