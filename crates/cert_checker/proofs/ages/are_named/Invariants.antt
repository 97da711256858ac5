use Rattle.std.proofs.Common.{◌≡◌, drop}
use Rattle.cert_checker.specs.CertificateFaults.{are_named}
use Rattle.cert_checker.proofs.ages.are_named.Given as goal

abbrev pub invariant-loop-chain : goal.invariant-loop-chain
invariant-loop-chain l =
    are_named (drop l.chain-index l.chains) l.rest ≡ are_named l.chains l.said
