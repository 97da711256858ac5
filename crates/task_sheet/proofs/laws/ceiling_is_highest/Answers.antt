use Rattle.task_sheet.proofs.CeilingLaws.{ceiling-highest, ceiling-none}
use Rattle.task_sheet.proofs.laws.ceiling_is_highest.Goals as goal

pub returns : goal.returns
returns c = record {
  level = λ U order lock level. ceiling-highest U lock order level;
  none =
      λ U order lock each. ceiling-none U lock order each;
}
