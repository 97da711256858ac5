use Rattle.cert_checker.proofs.ReadyLaws.{faultless}
use Rattle.cert_checker.proofs.laws.faultless_is_ready.Goals as goal

pub returns : goal.returns
returns c = faultless
