use Rattle.preferences.proofs.LimitLaws.{better-nearer_order, best-nearest}
use Rattle.preferences.proofs.laws.best_is_nearest.Goals as goal

pub returns : goal.returns
returns c = record {
  nearer = λ U V first second preferred. better-nearer_order U V preferred first second;
  best = λ U V order other preferred. best-nearest U V preferred order other;
}
