use Rattle.std.proofs.Common.{◌≡◌, true, not, sym, ◌∙◌, ap}
use Rattle.task_sheet.proofs.Common.{Indexes, indexes_of, must_outrank_any}
use Rattle.task_sheet.proofs.MembersIndexes.{indexes_of-remove}
use Rattle.cert_checker.specs.CertificateFaults.{covers}
use Rattle.cert_checker.proofs.refuting.time_stands.Goals as goal

pub returns-then-covers : goal.returns-then-covers
returns-then-covers c =
    let U = c.args.set.now in
    let i = c.args.task in
    let so : covers U (indexes_of c.args.left) i c.args.time ≡ true = sym c.covers.ensures
    ∙ c.if-covers.true in
    let rest = ap indexes_of c.without.ensures ∙ indexes_of-remove c.args.left i in
    rw so (ap not (c.must_outrank_any.ensures ∙ ap (λ (H : Indexes). must_outrank_any U i H) rest))
