use Rattle.task_sheet.proofs.LevelLaws.{IsBest-one}
use Rattle.task_sheet.proofs.laws.best_is_one.Goals as goal

pub returns : goal.returns
returns c = IsBest-one
