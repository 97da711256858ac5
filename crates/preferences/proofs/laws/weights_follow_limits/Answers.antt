use Rattle.preferences.proofs.LimitLaws.{weight-at, weight-compare, preferred-again}
use Rattle.preferences.proofs.laws.weights_follow_limits.Goals as goal

pub returns : goal.returns
returns c = record {
  weight = λ U V k preferred. weight-at U V preferred k;
  compare = λ U V i j preferred. weight-compare U V preferred i j;
  again = λ U V preferred. preferred-again U V preferred;
}
