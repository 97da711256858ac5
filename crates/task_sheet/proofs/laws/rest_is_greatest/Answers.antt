use Rattle.task_sheet.proofs.ObstructionLaws.{AllChosen-obstruction}
use Rattle.task_sheet.proofs.laws.rest_is_greatest.Goals as goal

pub returns : goal.returns
returns c = λ U placed k valid chosen some. AllChosen-obstruction U valid placed chosen k some
