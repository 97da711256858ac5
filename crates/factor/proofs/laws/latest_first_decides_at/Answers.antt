use Rattle.response_time.proofs.SlowedLaws.{Slowed, slowed-eased}
use Rattle.latest_first.proofs.OneOrder.{IsPassingBy-latest}
use Rattle.factor.proofs.laws.latest_first_decides_at.Goals as goal

pub returns : goal.returns
returns c = λ U factor order valid prompt each first. (
  λ passing. (order, passing),
  IsPassingBy-latest (Slowed factor) (slowed-eased factor) U valid prompt order each first,
)
