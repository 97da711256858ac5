use Rattle.std.proofs.Common.{append_assoc}
use Rattle.std.proofs.lemmas.List.{append-nil}
use Rattle.lines.specs.TextLines.{parts}
use Rattle.lines.proofs.Parts.{parts_some}
use Rattle.certificate.specs.Words.{chain_if}
use Rattle.certificate.specs.CertificateLines.{front_from}
use Rattle.certificate.proofs.Loops.{front_line}
use Rattle.certificate.proofs.body.chains.Goals as goal

pub loop-line-preserved : goal.loop-line-preserved
loop-line-preserved c =
    let line = front_line (chain_if c.args.may) c.in-Some.line.now (parts c.in-Some.after.rest.now)
    c.loop-line.at.line (parts_some c.in-Some.after.rest.now) in
    rw (c.in_ok-push.ensures.items, c.in-Some.ensures.line.1, append_assoc)
    (rw (c.in-Some.ensures.line.0, line, ← c.in-Some-chain_if.ensures) at c.loop-line.invariant)

pub returns-in_default : goal.returns-in_default
unfolding front_from
returns-in_default c = rw c.in_default.ensures.line
    (rw (c.in_default.ensures.line, append-nil) at c.loop-line.invariant)

pub returns-in_default-chain_if : goal.returns-in_default-chain_if
returns-in_default-chain_if c =
    let line = front_line (chain_if c.args.may) c.in-Some.line.now (parts c.in-Some.after.rest.now)
    c.loop-line.at.line (parts_some c.in-Some.after.rest.now) in
    rw c.in-Some.ensures.line.0
    (rw (c.in-Some.ensures.line.0, line, ← c.in_default-chain_if.ensures, append-nil)
    at c.loop-line.invariant)
