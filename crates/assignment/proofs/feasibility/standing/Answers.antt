use Rattle.std.proofs.Common.{◌∙◌, ap, sym, subst}
use Rattle.std.proofs.lemmas.Bool.{both_ways}
use Rattle.task_sheet.proofs.Common.{Indexes, indexes_of, Passes}
use Rattle.task_sheet.proofs.MembersIndexes.{indexes_of-remove}
use Rattle.latest_first.proofs.OneOrder.{AllPrompt-valid, NoneStands-latest, NoneStands-bound}
use Rattle.assignment.proofs.feasibility.standing.Goals as goal

pub returns-in_err-task-clause-none : goal.returns-in_err-task-clause-none
returns-in_err-task-clause-none c = rw c.from_residual.ensures
    (NoneStands-bound c.args.set.now (indexes_of c.args.left) c.in_err-task.ensures.none)

pub returns-then-passes-clause-stands : goal.returns-then-passes-clause-stands
returns-then-passes-clause-stands c =
    let U = c.args.set.now in
    let i = c.in_ok-task.task in
    let rest = ap indexes_of c.without.ensures ∙ indexes_of-remove c.args.left i in (
      subst (λ (X : Indexes). Passes U i X) rest (c.passes.ensures.0 c.if-passes.true),
      c.in_ok-task.ensures.some.free.1,
    )

-- the task speaks for all that are left
pub returns-else-passes-clause-none : goal.returns-else-passes-clause-none
returns-else-passes-clause-none c =
    let U = c.args.set.now in
    let i = c.in_ok-task.task in
    let rest = ap indexes_of c.without.ensures ∙ indexes_of-remove c.args.left i in
    NoneStands-latest U (AllPrompt-valid U c.in_ok-task.ensures.kept) (indexes_of c.args.left) i
    c.requires c.in_ok-task.ensures.some
    (λ passes. both_ways c.passes.result c.if-passes.false
    (c.passes.ensures.1 (subst (λ (X : Indexes). Passes U i X) (sym rest) passes)))
