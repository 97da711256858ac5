use Rattle.task_sheet.proofs.ObstructionLaws.{IsObstruction-either}
use Rattle.task_sheet.proofs.laws.obstructions_unite.Goals as goal

pub returns : goal.returns
returns c = λ U S R valid. IsObstruction-either U valid S R
