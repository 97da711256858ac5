use Rattle.std.proofs.Common.{inl, inr, true, sym}
use Rattle.std.proofs.lemmas.Bool.{true≢false}
use Rattle.task_sheet.specs.Orders.{all_of}
use Rattle.task_sheet.proofs.LevelLaws.{compare_orders}
use Rattle.kept_order.proofs.laws.best_kept_is_one.Goals as goal

pub returns-clause-one : goal.returns-clause-one
returns-clause-one c = λ U kept first second a b.
    elim (compare_orders (all_of U) first second a.passing.passing.each_once
    b.passing.passing.each_once) [
      | inl same ↦ same
      | inr either ↦ elim either [
        | inl better ↦ absurd (b.unbeaten first a.passing better)
        | inr better ↦ absurd (a.unbeaten second b.passing better)
      ]
    ]

pub returns-clause-best : goal.returns-clause-best
returns-clause-best c = λ U order best. record {
  passing = best.passing.passing;
  unbeaten = λ other passing better. best.unbeaten other (record {
    passing = passing;
    keeps = λ i k below. absurd (true≢false (sym below));
  }) better;
}
