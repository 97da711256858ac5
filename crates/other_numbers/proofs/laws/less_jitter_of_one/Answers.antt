use Rattle.other_numbers.proofs.CostLaws.{AreEasier-delayed}
use Rattle.other_numbers.proofs.EasierLaws.{IsFeasible-easier}
use Rattle.other_numbers.proofs.laws.less_jitter_of_one.Goals as goal

pub returns : goal.returns
returns c = record {
  easier = AreEasier-delayed;
  feasible = λ U i low high le. IsFeasible-easier _ _ (AreEasier-delayed U i low high le);
}
