use Rattle.chains.proofs.OrderLaws.{order_law}
use Rattle.chains.proofs.BackLaws.{back_law, go_on_law}
use Rattle.chains.proofs.laws.samples_keep_order.Goals as goal

pub returns : goal.returns
returns c = record { jobs = order_law; samples = back_law; paths = go_on_law }
