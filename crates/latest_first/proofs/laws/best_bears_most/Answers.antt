use Rattle.latest_first.proofs.OneOrder.{IsOrder-alike, IsLatestFirst-alike, IsPassingOrder-latest}
use Rattle.latest_first.proofs.BestLatest.{best-latest}
use Rattle.latest_first.proofs.laws.best_bears_most.Goals as goal

pub returns : goal.returns
returns c = record {
  first = λ U order valid prompt follow. best-latest U valid prompt follow order;
  most = λ U V order valid prompt follow best alike valid' prompt'. (
    λ passing. (order, passing),
    IsPassingOrder-latest V valid' prompt' order
        (IsOrder-alike U V alike order best.passing.each_once)
        (IsLatestFirst-alike U V alike order (best-latest U valid prompt follow order best)),
  );
}
