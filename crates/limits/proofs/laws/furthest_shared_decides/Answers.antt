use Rattle.limits.proofs.SharedLaws.{shared-each, shared-one}
use Rattle.limits.proofs.laws.furthest_shared_decides.Goals as goal

pub returns : goal.returns
returns c = record {
  each = λ W node number order most value set. shared-each W node number order set most value;
  one = shared-one;
}
