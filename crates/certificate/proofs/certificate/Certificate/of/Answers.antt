use Rattle.assignment.specs.Verdict.{verdict_set, verdict_of}
use Rattle.std.proofs.lemmas.List.Elements.{recursion_from_All}
use Rattle.certificate.specs.Body.{IsChainText}
use Rattle.certificate.proofs.VerdictSpelling.{verdict-spelled}
use Rattle.certificate.proofs.certificate.Certificate.of.Goals as goal

pub invariant_of-result : goal.invariant_of-result
invariant_of-result c =
    let kept = rw c.set-set.ensures.same at c.sheets-sheets.ensures.kept in
    rw (c.version_for-version.ensures, c.shows_chains.ensures, c.set-set.ensures.same, c.in_ok-chains.ensures, c.in_ok-body.ensures)
    (verdict-spelled (verdict_set c.args.verdict.now) kept (verdict_of c.args.verdict.now)
    c.args.chains.now c.set-set.ensures.verdict (recursion_from_All IsChainText c.args.chains.now c.requires))
