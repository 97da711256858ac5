use Rattle.std.proofs.Common.{append_assoc}
use Rattle.std.proofs.lemmas.List.{append-nil}
use Rattle.lines.specs.TextLines.{parts}
use Rattle.lines.proofs.Parts.{parts_some}
use Rattle.std.specs.Prelude.{codes}
use Rattle.certificate.specs.Words.{fail_in}
use Rattle.certificate.specs.CertificateLines.{front_from}
use Rattle.certificate.proofs.Loops.{front_line}
use Rattle.certificate.proofs.reading.Reader.fails.Goals as goal

pub loop-line-preserved : goal.loop-line-preserved
loop-line-preserved c =
    let line = front_line (fail_in c.args.self.version (codes "fails")) c.in-Some.line.now (parts c.in-Some.after.rest.now)
    c.loop-line.at.line (parts_some c.in-Some.after.rest.now) in
    rw (c.in_ok-push.ensures.items, c.in-Some.ensures.line.1, append_assoc)
    (rw (c.in-Some.ensures.line.0, line, ← rw c.in-Some-2.is at c.in_ok-fail.ensures)
    at c.loop-line.invariant)

pub returns-in_default : goal.returns-in_default
unfolding front_from
returns-in_default c = rw c.in_default.ensures.line
    (rw (c.in_default.ensures.line, append-nil) at c.loop-line.invariant)

pub returns-in_default-2 : goal.returns-in_default-2
returns-in_default-2 c =
    let line = front_line (fail_in c.args.self.version (codes "fails")) c.in-Some.line.now (parts c.in-Some.after.rest.now)
    c.loop-line.at.line (parts_some c.in-Some.after.rest.now) in
    rw c.in-Some.ensures.line.0
    (rw (c.in-Some.ensures.line.0, line, ← rw c.in_default-2.is at c.in_ok-fail.ensures, append-nil)
    at c.loop-line.invariant)
