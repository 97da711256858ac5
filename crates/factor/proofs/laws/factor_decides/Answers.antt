use Rattle.std.proofs.Common.{◌↔◌, ℕ, ◌≤◌, List, Option, None, inl, inr, subst, arith}
use Rattle.std.proofs.lemmas.Bool.{cases_lt}
use Rattle.task_sheet.proofs.IndexLaws.{same_parts}
use Rattle.task_sheet.proofs.Common.{Task}
use Rattle.latest_first.specs.LatestFirst.{IsFirstLatest}
use Rattle.limits.proofs.InOrderLaws.{PassesIn-own}
use Rattle.factor.specs.Factors.{IsFactor, PassesInAt}
use Rattle.factor.proofs.AtLaws.{at-less}
use Rattle.factor.proofs.laws.factor_decides.Goals as goal

each : (U : List Task) (order : Option (List ℕ)) (most f : ℕ) → IsFactor U order most
    → PassesInAt f order U ↔ (f ≤ most)
each U order most f is = (
  λ passes. elim (cases_lt most f) [ inl lt ↦ absurd (is.greatest f lt passes) | inr le ↦ le ],
  λ le. at-less U f most le order is.passes,
)

pub returns : goal.returns
returns c = record {
  each = each;
  own = λ U order most is. (
    λ passes. (each U order most 1000 is).0 ((PassesIn-own order U).0 passes),
    λ le. (PassesIn-own order U).1 ((each U order most 1000 is).1 le),
  );
  one = λ U order first second is other.
      omega (arith, (each U order first second is).0 other.passes, (each U order second first other).0 is.passes);
  any = λ U order own most is other. (each U None most own other).0 (order, is.passes);
  none = λ U order none passes. none 1000 (omega arith) ((PassesIn-own order U).0 passes);
  fails = λ U f i j (S, first, here) (R, second, there).
      let same = same_parts R S (first.greatest R second.obstruction) (second.greatest S first.obstruction) in
      let other = subst (λ X. IsFirstLatest U X j) same there in
      elim (cases_lt i j) [
        | inl lt ↦ absurd (omega (arith, other.first i lt here.latest.free, here.latest.latest j other.latest.free))
        | inr ge ↦ elim (cases_lt j i) [
          | inl lt ↦ absurd (omega (arith, here.first j lt other.latest.free, other.latest.latest i here.latest.free))
          | inr le ↦ omega (arith, ge, le)
        ]
      ];
}
