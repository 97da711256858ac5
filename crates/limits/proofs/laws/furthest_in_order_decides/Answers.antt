use Rattle.std.proofs.Common.{Some}
use Rattle.limits.specs.InOrder.{PassesIn}
use Rattle.limits.proofs.NumberLaws.{PassesIn-easier, furthest-each, furthest-none, furthest-own, furthest-one}
use Rattle.limits.proofs.NumberLaws.{in_order-within}
use Rattle.limits.proofs.laws.furthest_in_order_decides.Goals as goal

pub returns : goal.returns
returns c = record {
  each = λ U order i number most value.
      furthest-each (PassesIn (Some order)) (PassesIn-easier (Some order)) U i number most value;
  own = λ U order i number most set inside has.
      furthest-own (PassesIn (Some order)) (PassesIn-easier (Some order)) U i number set inside most;
  one = λ U order. furthest-one (PassesIn (Some order)) U;
  within = in_order-within;
  none = λ U order i number set inside has.
      furthest-none (PassesIn (Some order)) (PassesIn-easier (Some order)) U i number set inside;
}
