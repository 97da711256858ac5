use Rattle.task_sheet.proofs.ReadyLaws.{IsReadySet-fails}
use Rattle.task_sheet.proofs.laws.ready_refutes.Goals as goal

pub returns : goal.returns
returns c = λ U members valid. IsReadySet-fails U valid members
