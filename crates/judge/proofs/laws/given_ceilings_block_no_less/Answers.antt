use Rattle.judge.proofs.RaisedLaws.{blocking-least, blocking-same, order-above}
use Rattle.judge.proofs.LeastLaws.{judged-same}
use Rattle.judge.proofs.laws.given_ceilings_block_no_less.Goals as goal

pub returns : goal.returns
returns c = record {
  more = λ U threads mutexes order place by within. blocking-least U threads mutexes _ _ _
      (order-above U threads mutexes order place by within);
  same = blocking-same;
  judged = judged-same;
}
