use Rattle.task_sheet.proofs.VerdictLaws.{IsBestOrder-feasible, IsStuck-infeasible}
use Rattle.task_sheet.proofs.laws.verdict_decides.Goals as goal

pub returns : goal.returns
returns c = record {
  admitted = IsBestOrder-feasible;
  infeasible =
      λ U members valid. IsStuck-infeasible U valid members;
}
