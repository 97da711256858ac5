use Rattle.task_sheet.proofs.VerdictLaws.{IsVerdictOf-one}
use Rattle.task_sheet.proofs.laws.verdict_is_one.Goals as goal

pub returns : goal.returns
returns c = λ U first second valid. IsVerdictOf-one U valid first second
