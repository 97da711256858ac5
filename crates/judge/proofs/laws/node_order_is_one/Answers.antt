use Rattle.judge.proofs.OrderLaws.{one_node_order}
use Rattle.judge.proofs.laws.node_order_is_one.Goals as goal

pub returns : goal.returns
returns c = one_node_order
