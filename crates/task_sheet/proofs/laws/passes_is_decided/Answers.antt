use Rattle.task_sheet.proofs.PassingLaws.{does_pass-iff}
use Rattle.task_sheet.proofs.laws.passes_is_decided.Goals as goal

pub returns : goal.returns
returns c = does_pass-iff
