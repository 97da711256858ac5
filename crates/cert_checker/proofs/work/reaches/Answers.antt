use Rattle.std.proofs.Common.{◌≡◌, ◌<◌, true, sym, ◌∙◌, length, ap}
use Rattle.task_sheet.proofs.Common.{task_at, indexes_of, shares_lock}
use Rattle.task_sheet.proofs.TaskLaws.{task_read}
use Rattle.cert_checker.proofs.WorkSteps.{reached-at}
use Rattle.cert_checker.proofs.work.reaches.Goals as goal

pub returns-then-shares : goal.returns-then-shares
returns-then-shares c =
    let U = c.args.set.now in
    let V = c.sheets-sheet-items.result.now in
    let lt : c.loop-k.k < length U =
    rw (sym c.sheets-sheet-items.ensures.same) c.loop-k-test.true in
    let is = task_read U V c.loop-k.k c.sheet-item.result c.sheets-sheet-items.ensures.same lt
    c.sheet-item.is in
    let shares : shares_lock (task_at U c.loop-k.k) c.args.section.now ≡ true =
    ap (λ t. shares_lock t c.args.section.now) (sym is) ∙ sym c.shares.ensures
    ∙ c.if-shares.true in
    sym (reached-at U (indexes_of c.args.members) c.args.section.now c.loop-k.k lt
    (sym c.has.ensures ∙ c.if-has.true) shares)
