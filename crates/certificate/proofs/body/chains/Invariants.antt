use Rattle.std.proofs.Common.{◌≡◌, length}
use Rattle.certificate.specs.CertificateLines.{chains_from, at_place}
use Rattle.certificate.proofs.Loops.{onto}
use Rattle.certificate.proofs.body.chains.Given as goal

abbrev pub invariant-loop-line : goal.invariant-loop-line
invariant-loop-line l = onto l.chains.items (chains_from l.may (at_place l.at).parts l.at.line)
    ≡ chains_from l.may (at_place l.fn.at).parts l.fn.at.line

abbrev pub decreases-loop-line : goal.decreases-loop-line
decreases-loop-line l = length l.at.rest.now
