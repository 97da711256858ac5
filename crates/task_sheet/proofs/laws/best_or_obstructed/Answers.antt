use Rattle.task_sheet.proofs.Deciding.{best_or_obstructed}
use Rattle.task_sheet.proofs.laws.best_or_obstructed.Goals as goal

pub returns : goal.returns
returns c = best_or_obstructed
