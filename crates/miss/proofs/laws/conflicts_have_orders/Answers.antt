use Rattle.miss.proofs.ConflictOrders.{conflict_law}
use Rattle.miss.proofs.laws.conflicts_have_orders.Goals as goal

pub returns : goal.returns
returns c = λ U set. conflict_law U set
