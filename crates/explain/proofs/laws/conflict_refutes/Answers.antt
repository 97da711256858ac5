use Rattle.task_sheet.proofs.ObstructionLaws.{IsObstruction-fails}
use Rattle.explain.proofs.laws.conflict_refutes.Goals as goal

pub returns : goal.returns
returns c = λ U C valid least. IsObstruction-fails U valid C least.obstruction
