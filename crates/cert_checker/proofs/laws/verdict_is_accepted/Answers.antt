use Rattle.cert_checker.proofs.AcceptedLaws.{verdict-accepted}
use Rattle.cert_checker.proofs.laws.verdict_is_accepted.Goals as goal

pub returns : goal.returns
returns c = λ U chains v set are h. verdict-accepted U set chains v are h
