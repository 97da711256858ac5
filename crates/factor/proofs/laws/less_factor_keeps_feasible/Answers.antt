use Rattle.limits.proofs.InOrderLaws.{PassesIn-own}
use Rattle.factor.proofs.AtLaws.{passes-less, at-less}
use Rattle.factor.proofs.laws.less_factor_keeps_feasible.Goals as goal

pub returns : goal.returns
returns c = record {
  passes = λ U low high i H le. passes-less U low high le i H;
  order = λ U low high order le. at-less U low high le order;
  same = λ U order. let own = PassesIn-own order U in (own.1, own.0);
}
