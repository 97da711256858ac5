use Rattle.task_sheet.proofs.ObstructionLaws.{IsObstruction-fails}
use Rattle.task_sheet.proofs.laws.obstruction_refutes.Goals as goal

pub returns : goal.returns
returns c = λ U S valid. IsObstruction-fails U valid S
