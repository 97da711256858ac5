use Rattle.task_sheet.proofs.Deciding.{find_verdict}
use Rattle.task_sheet.proofs.laws.verdict_exists.Goals as goal

pub returns : goal.returns
returns c = find_verdict
