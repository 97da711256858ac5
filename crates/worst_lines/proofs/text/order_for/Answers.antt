use Rattle.std.proofs.Common.{◌∙◌, sym}
use Rattle.std.proofs.lemmas.Result.{IfOk-weaker}
use Rattle.task_sheet.specs.Indexes.{indexes_of}
use Rattle.worst_lines.proofs.BelowLaws.{below-order}
use Rattle.worst_lines.proofs.text.order_for.Goals as goal

pub returns-then-has-clause-order : goal.returns-then-has-clause-order
returns-then-has-clause-order c =
    let C = indexes_of c.args.conflict in
    let member = sym c.has.ensures ∙ c.if-has.true in
    IfOk-weaker c.order_below.result _ _
    (λ order is. below-order c.args.set.now C c.in-Some.task order.items
    c.requires.obstruction.within member is) c.order_below.ensures
