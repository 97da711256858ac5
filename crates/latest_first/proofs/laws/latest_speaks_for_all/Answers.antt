use Rattle.latest_first.proofs.OneOrder.{NoneStands-latest, NoneStands-bound}
use Rattle.latest_first.proofs.laws.latest_speaks_for_all.Goals as goal

pub returns : goal.returns
returns c =
    record { fails = λ U L i prompt. NoneStands-latest U prompt L i; bound = NoneStands-bound }
