use Rattle.std.proofs.Common.{◌≡◌, true, ap, ◌∙◌, refl, arith}
use Rattle.std.specs.Prelude.{nat_le}
use Rattle.std.proofs.lemmas.Bool.{le-leb}
use Rattle.task_sheet.proofs.Common.{task_at, indexes_of, demand_of, limit_of}
use Rattle.task_sheet.proofs.MembersIndexes.{indexes_of-remove}
use Rattle.task_sheet.proofs.TaskLaws.{task_read}
use Rattle.cert_checker.proofs.refuting.covers.Goals as goal

pub returns : goal.returns
unfolding demand_of
returns c =
    let U = c.args.set.now in
    let i = c.args.task in
    let time = c.args.time in
    let is = task_read U c.sheets-sheets.result.now i c.index-sheets-task.result
    c.sheets-sheets.ensures.same c.requires c.index-sheets-task.is in
    let limit = c.limit_of-limit.ensures ∙ ap limit_of is in
    let above = ap indexes_of c.without-above.ensures ∙ indexes_of-remove c.args.left i in
    let low : nat_le 1 time ≡ true = le-leb 1 time (omega (arith, c.if-time-lt1.false)) in
    let high : nat_le time (limit_of (task_at U i)) ≡ true =
    le-leb time (limit_of (task_at U i)) (omega (arith, c.if-time-limit.false, limit)) in
    rw (low, high, c.demand_from.ensures, c.base_demand.ensures.is, above) refl
