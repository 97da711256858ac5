use Rattle.preferences.proofs.ChainLaws.{chained-compare}
use Rattle.preferences.proofs.laws.weights_follow_chains.Goals as goal

pub returns : goal.returns
returns c = record {
  compare = λ chains U V i j preferred. chained-compare chains U V preferred i j;
  without = λ U V. (λ h. h, λ h. h);
}
