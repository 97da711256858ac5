use Rattle.std.proofs.Common.{◌≡◌, drop}
use Rattle.cert_checker.specs.Ready.{levels_of}
use Rattle.cert_checker.specs.CertificateFaults.{bad_age}
use Rattle.cert_checker.proofs.ages.bad_age.Given as goal

abbrev pub invariant-loop-chain : goal.invariant-loop-chain
invariant-loop-chain l =
    bad_age l.set (levels_of l.set l.levels) (drop l.chain-index l.chains) l.rest
    ≡ bad_age l.set (levels_of l.set l.levels) l.chains l.said
