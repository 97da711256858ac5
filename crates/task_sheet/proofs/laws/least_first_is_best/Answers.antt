use Rattle.task_sheet.proofs.LevelLaws.{AllChosen-best}
use Rattle.task_sheet.proofs.laws.least_first_is_best.Goals as goal

pub returns : goal.returns
returns c = AllChosen-best
