use Rattle.latest_first.proofs.OneOrder.{Passes-later}
use Rattle.latest_first.proofs.laws.later_limit_passes.Goals as goal

pub returns : goal.returns
returns c = λ U L i j prompt part. Passes-later U prompt L part i j
