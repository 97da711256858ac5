use Rattle.std.proofs.Common.{false, sym, subst}
use Rattle.std.proofs.lemmas.List.Elements.{All-get_or}
use Rattle.certificate.specs.CertificateOf.{IsKnownLevel}
use Rattle.certificate.proofs.VerdictSpelling.{levels-told}
use Rattle.certificate.proofs.naming.best_named.Goals as goal

pub level_named-requires : goal.level_named-requires
level_named-requires c =
    let kept = rw c.set-set.ensures.same at c.sheets-sheets.ensures.kept in
    let told = levels-told c.args.best.now.set kept false c.args.best.now.levels c.set-set.ensures.best in
    subst (IsKnownLevel c.set-set.result.now) (sym c.level-item.is)
    (All-get_or (IsKnownLevel c.set-set.result.now) c.levels-level-items.result.now
    c.loop-level.level-index c.level-item.result c.loop-level-test.true
    (rw (c.levels-level-items.ensures.same, c.set-set.ensures.same) told.0))
