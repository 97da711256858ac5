use Rattle.std.proofs.Common.{◌∙◌, ℕ, List, sym, subst, arith}
use Rattle.task_sheet.specs.Orders.{IsOrder}
use Rattle.judge.proofs.TaskLaws.{in_set, judged_in_set}
use Rattle.judge.proofs.node.judge_given_rows.Goals as goal

pub judge_by-requires-clause-within : goal.judge_by-requires-clause-within
judge_by-requires-clause-within c =
    let by = rw c.tasks.ensures at c.in_ok-order.ensures in
    rw c.deref-2.ensures.value (in_set c.args.set.now c.in_ok-order.order.items by.each_once)

pub numbers_of-requires : goal.numbers_of-requires
numbers_of-requires c =
    let by = rw c.tasks.ensures at c.in_ok-order.ensures in
    rw c.deref-3.ensures.value (in_set c.args.set.now c.in_ok-order.order.items by.each_once)

pub returns-clause-within : goal.returns-clause-within
returns-clause-within c = λ k d lt.
    let by = rw c.tasks.ensures at c.in_ok-order.ensures in
    let each = subst (λ (order : List ℕ). IsOrder c.args.set.now order)
    (sym (c.in_ok-judged.ensures.order ∙ c.deref-2.ensures.value)) by.each_once in
    omega (
      arith,
      judged_in_set c.args.set.now c.in_ok-judged.judged.items each k d lt,
      c.sheets.ensures.kept.few,
    )
