use Rattle.std.proofs.Common.{◌≤◌}
use Rattle.other_numbers.proofs.EasierLaws.{kept-le, jobs-rarer, blocking-same, blocking-easier}
use Rattle.other_numbers.proofs.EasierLaws.{demand-easier, limit-easier, Passes-easier, Stands-easier}
use Rattle.other_numbers.proofs.EasierLaws.{IsPassingOrder-easier, IsFeasible-easier}
use Rattle.other_numbers.proofs.laws.easier_keeps_feasible.Goals as goal

pub returns : goal.returns
returns c = record {
  rarer = λ easy hard time. jobs-rarer _ _ _ _ time;
  same = blocking-same;
  blocking = λ V U i H easy. blocking-easier ◌≤◌ kept-le V U easy i H;
  demand = λ V U i H t easy. demand-easier ◌≤◌ kept-le V U easy i H t;
  limit = λ V U i easy. limit-easier ◌≤◌ kept-le V U easy i;
  passes = λ V U i H easy. Passes-easier V U easy i H;
  stands = λ V U i H easy. Stands-easier V U easy i H;
  order = λ V U order easy. IsPassingOrder-easier V U easy order;
  feasible = IsFeasible-easier;
}
