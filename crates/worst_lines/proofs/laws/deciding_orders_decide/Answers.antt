use Rattle.worst_lines.proofs.PassLaws.{deciding-passes}
use Rattle.worst_lines.proofs.laws.deciding_orders_decide.Goals as goal

pub returns : goal.returns
returns c = λ U order set is. (λ passing. (order, passing), deciding-passes U set order is)
