use Rattle.task_sheet.proofs.PassingLaws.{find_reason, Refutes-fails, Refutes-from_reason}
use Rattle.task_sheet.proofs.PassingLaws.{IsReason-one}
use Rattle.task_sheet.proofs.laws.reason_shows.Goals as goal

pub returns : goal.returns
returns c = record {
  exactly = λ U i H valid. (
    find_reason U i H,
    λ found. Refutes-fails U valid i H found.0
        (Refutes-from_reason U i H found.0 found.1),
  );
  one = IsReason-one;
}
