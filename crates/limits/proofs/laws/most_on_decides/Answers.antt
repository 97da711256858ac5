use Rattle.limits.proofs.CutLaws.{most-each, most-never, most-one, most-own, set-cut}
use Rattle.limits.proofs.laws.most_on_decides.Goals as goal

pub returns : goal.returns
returns c = record {
  each = λ follows U lock order most value. most-each U lock order follows most value;
  own = λ follows U lock order most. most-own U lock order follows most;
  one = most-one;
  none = λ follows U lock order. most-never U lock order follows;
  set = λ follows U lock most set some. set-cut follows lock most U some set;
}
