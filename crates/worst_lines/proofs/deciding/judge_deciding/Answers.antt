use Rattle.judge.proofs.TaskLaws.{in_set}
use Rattle.worst_lines.proofs.deciding.judge_deciding.Goals as goal

pub judge_order-requires : goal.judge_order-requires
judge_order-requires c = rw c.deref.ensures.value
    (in_set c.args.set.now c.in_ok-order.order.items c.in_ok-order.ensures.each_once)

pub returns-clause-decides : goal.returns-clause-decides
returns-clause-decides c =
    rw (c.in_ok-judged.ensures.order, c.deref.ensures.value) c.in_ok-order.ensures
