use Rattle.explain.proofs.SumLaws.{explanation-adds_up}
use Rattle.explain.proofs.laws.explanation_adds_up.Goals as goal

pub returns : goal.returns
returns c = explanation-adds_up
