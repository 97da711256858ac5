use Rattle.judge.proofs.TaskLaws.{in_set}
use Rattle.worst_lines.proofs.text.worst_text.Goals as goal

pub judge_order-requires : goal.judge_order-requires
judge_order-requires c = rw c.deref.ensures.value
    (in_set c.of-tabled.result c.in_ok-order.order.items c.in_ok-order.ensures.order)
