use Rattle.task_sheet.specs.Orders.{IsFeasible}
use Rattle.other_numbers.proofs.EasierLaws.{IsFeasible-easier}
use Rattle.limits.proofs.NumberLaws.{furthest-each, furthest-own, furthest-one, furthest-none}
use Rattle.limits.proofs.laws.furthest_decides.Goals as goal

pub returns : goal.returns
returns c = record {
  each = λ U i number most value. furthest-each IsFeasible IsFeasible-easier U i number most value;
  own = λ U i number most set inside has.
      furthest-own IsFeasible IsFeasible-easier U i number set inside most;
  one = furthest-one IsFeasible;
  none = λ U i number set inside has.
      furthest-none IsFeasible IsFeasible-easier U i number set inside;
}
