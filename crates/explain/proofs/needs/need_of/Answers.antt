use Rattle.std.proofs.Common.{◌∙◌, length, ap, refl}
use Rattle.task_sheet.specs.Indexes.{indexes_of}
use Rattle.task_sheet.proofs.MembersIndexes.{indexes_of-remove}
use Rattle.explain.proofs.NeedLaws.{falling-within}
use Rattle.explain.proofs.needs.need_of.Goals as goal

pub returns-in-Some : goal.returns-in-Some
returns-in-Some c =
    let rest = ap indexes_of c.without-above.ensures
    ∙ indexes_of-remove c.args.conflict c.args.task in
    (refl, rw rest at c.in-Some.ensures.some)

pub needs_account-requires-clause-within : goal.needs_account-requires-clause-within
needs_account-requires-clause-within c =
    rw (c.deref.ensures.value, c.in_ok-order.ensures)
    (falling-within (length c.args.set.now) (indexes_of c.without-above.result))

pub needs_account-requires-clause-fails : goal.needs_account-requires-clause-fails
needs_account-requires-clause-fails c = λ passes.
    let i = c.args.task in
    let rest = ap indexes_of c.without-above.ensures ∙ indexes_of-remove c.args.conflict i in
    c.requires.obstruction.stuck i c.requires.member
    (rw (← rest) (passes, c.in_default.ensures.none))

pub returns : goal.returns
returns c =
    let rest = ap indexes_of c.without-above.ensures
    ∙ indexes_of-remove c.args.conflict c.args.task in
    let account = rw (c.deref.ensures.value ∙ c.in_ok-order.ensures) at c.in_ok-account.ensures in
    (rw (← rest) c.in_default.ensures.none, rw (← rest) account)
