use Rattle.limits.proofs.NodeLaws.{demand-padded, feasible-padded, order-padded, IsFeasible-plain}
use Rattle.limits.proofs.laws.lighter_node_keeps_feasible.Goals as goal

pub returns : goal.returns
returns c = record {
  demand =
      λ U light heavy i H t set is lt out pos. demand-padded U light heavy set is i H t lt out pos;
  feasible = λ U light heavy set is room. feasible-padded U light heavy set is;
  order = λ U light heavy order set is room. order-padded U light heavy set is order;
  plain = IsFeasible-plain;
}
