use Rattle.task_sheet.proofs.ReadyLaws.{IsReadyOrder-best}
use Rattle.task_sheet.proofs.laws.ready_is_best.Goals as goal

pub returns : goal.returns
returns c = λ U levels valid. IsReadyOrder-best U valid levels
