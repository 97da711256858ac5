use Rattle.task_sheet.proofs.ChosenLaws.{chosen_of-is, chosen_of-none}
use Rattle.desk_core.proofs.laws.chosen_is_least.Goals as goal

pub returns : goal.returns
returns c = record { some = chosen_of-is; none = chosen_of-none }
