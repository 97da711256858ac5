use Rattle.judge.proofs.OrderLaws.{judged_passing, passing_judged}
use Rattle.judge.proofs.laws.passing_is_judged.Goals as goal

pub returns : goal.returns
returns c = λ U judged each. (judged_passing U judged each, passing_judged U judged each)
