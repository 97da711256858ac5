use Rattle.std.proofs.Common.{refl}
use Rattle.lines.proofs.Parts.{parts_some}
use Rattle.certificate.specs.CertificateLines.{line_from}
use Rattle.certificate.proofs.Loops.{line_is}
use Rattle.certificate.proofs.reading.next_line.Goals as goal

pub returns-in_default-clause-line : goal.returns-in_default-clause-line
unfolding line_from
returns-in_default-clause-line c = rw c.in_default.ensures.line refl

pub returns-clause-line : goal.returns-clause-line
returns-clause-line c = rw (c.in-Some.ensures.line.0, c.in-Some.ensures.line.1)
    (line_is _ _ _ (parts_some c.in-Some.after.rest.now))
