use Rattle.std.proofs.lemmas.Result.{IfOk-weaker}
use Rattle.judge.proofs.NumberLaws.{all_ordered}
use Rattle.judge.proofs.order.order_by.Goals as goal

pub returns : goal.returns
returns c = IfOk-weaker c.thread_order.result _ _ (λ order is. all_ordered c.args.set.now
    c.args.threads.now c.requires.all order.items is) c.thread_order.ensures.order
