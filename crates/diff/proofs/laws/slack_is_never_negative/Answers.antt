use Rattle.diff.proofs.SeatLaws.{slack_is_left}
use Rattle.diff.proofs.laws.slack_is_never_negative.Goals as goal

pub returns : goal.returns
returns c = λ U P task s set placing seat. slack_is_left U P task s set placing seat
