use Rattle.task_sheet.proofs.SetLaws.{by_rank_one}
use Rattle.task_sheet.proofs.laws.set_by_rank_is_one.Goals as goal

pub returns : goal.returns
returns c = by_rank_one
