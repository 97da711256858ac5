use Rattle.task_sheet.proofs.VerdictLaws.{IsBestOrder-ready, IsStuck-ready}
use Rattle.task_sheet.proofs.laws.verdict_is_ready.Goals as goal

pub returns : goal.returns
returns c = record {
  admitted = λ U levels valid. IsBestOrder-ready U valid levels;
  infeasible =
      IsStuck-ready;
}
