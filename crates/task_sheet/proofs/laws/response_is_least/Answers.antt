use Rattle.task_sheet.proofs.PassingLaws.{Passes-iff_response, IsResponseOf-iff}
use Rattle.task_sheet.proofs.laws.response_is_least.Goals as goal

pub returns : goal.returns
returns c = record {
  passes = λ U i H valid. Passes-iff_response U valid i H;
  jitter = IsResponseOf-iff;
}
