use Rattle.task_sheet.proofs.VerdictLaws.{IsVerdictOf-admitted, IsVerdictOf-infeasible}
use Rattle.task_sheet.proofs.laws.climb_gives_verdict.Goals as goal

pub returns : goal.returns
returns c = record {
  admitted = IsVerdictOf-admitted;
  infeasible =
      λ U placed members k valid. IsVerdictOf-infeasible U valid placed members k;
}
