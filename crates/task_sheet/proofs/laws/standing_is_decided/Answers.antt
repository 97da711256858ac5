use Rattle.task_sheet.proofs.PassingLaws.{does_stand-iff}
use Rattle.task_sheet.proofs.laws.standing_is_decided.Goals as goal

pub returns : goal.returns
returns c = does_stand-iff
