use Rattle.other_numbers.proofs.CostLaws.{AreEasier-costed}
use Rattle.other_numbers.proofs.EasierLaws.{IsFeasible-easier}
use Rattle.other_numbers.proofs.laws.less_cost_of_one.Goals as goal

pub returns : goal.returns
returns c = record {
  easier = AreEasier-costed;
  feasible = λ U i low high le. IsFeasible-easier _ _ (AreEasier-costed U i low high le);
}
