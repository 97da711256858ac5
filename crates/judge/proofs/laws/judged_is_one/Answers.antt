use Rattle.judge.proofs.OrderLaws.{one_judged}
use Rattle.judge.proofs.laws.judged_is_one.Goals as goal

pub returns : goal.returns
returns c = one_judged
