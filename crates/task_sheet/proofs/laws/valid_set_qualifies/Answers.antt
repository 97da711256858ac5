use Rattle.task_sheet.proofs.TaskLaws.{AllTasks-from_set}
use Rattle.task_sheet.proofs.laws.valid_set_qualifies.Goals as goal

pub returns : goal.returns
returns c = AllTasks-from_set
