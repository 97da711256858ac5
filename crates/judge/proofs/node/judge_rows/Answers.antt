use Rattle.std.proofs.Common.{◌∙◌, ℕ, List, map, sym, ap, subst, arith}
use Rattle.task_sheet.specs.Orders.{IsOrder}
use Rattle.judge.specs.SettingFaults.{thread_number}
use Rattle.judge.specs.Node.{IsOrderOfRows}
use Rattle.judge.specs.SettingLines.{threads_of}
use Rattle.judge.proofs.TaskLaws.{in_set, judged_in_set}
use Rattle.judge.proofs.node.judge_rows.Goals as goal

pub judge_order-requires : goal.judge_order-requires
judge_order-requires c = rw c.deref.ensures.value
    (in_set c.args.set.now c.in_ok-order.order.items c.in_ok-order.ensures.by_numbers.each_once)

pub numbers_of-requires : goal.numbers_of-requires
numbers_of-requires c = rw c.deref-2.ensures.value
    (in_set c.args.set.now c.in_ok-order.order.items c.in_ok-order.ensures.by_numbers.each_once)

pub returns-clause-judged : goal.returns-clause-judged
returns-clause-judged c =
    let same = c.in_ok-judged.ensures.order ∙ c.deref.ensures.value in (
      subst (λ (os : List ℕ). IsOrderOfRows c.args.lower_is_higher c.args.set.now c.args.rows.now
          os) (sym same) c.in_ok-order.ensures,
      c.in_ok-judged.ensures.judged,
    )

pub returns-clause-numbers : goal.returns-clause-numbers
returns-clause-numbers c = c.in_ok-numbers.ensures
    ∙ ap (λ (os : List ℕ). map (thread_number c.args.set.now (threads_of c.args.rows.now)) os)
    (c.deref-2.ensures.value ∙ sym (c.in_ok-judged.ensures.order ∙ c.deref.ensures.value))

pub returns-clause-within : goal.returns-clause-within
returns-clause-within c = λ k d lt.
    let each = subst (λ (order : List ℕ). IsOrder c.args.set.now order)
    (sym (c.in_ok-judged.ensures.order ∙ c.deref.ensures.value))
    c.in_ok-order.ensures.by_numbers.each_once in
    omega (
      arith,
      judged_in_set c.args.set.now c.in_ok-judged.judged.items each k d lt,
      c.sheets.ensures.kept.few,
    )
