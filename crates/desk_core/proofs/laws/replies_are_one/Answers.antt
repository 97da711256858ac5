use Rattle.desk_core.proofs.Determined.{runs-one}
use Rattle.desk_core.proofs.laws.replies_are_one.Goals as goal

pub returns : goal.returns
returns c = record {
  said = λ w u v events first second x y. (runs-one w u v events first second x y).0;
  world = λ w u v events first second x y. (runs-one w u v events first second x y).1;
}
