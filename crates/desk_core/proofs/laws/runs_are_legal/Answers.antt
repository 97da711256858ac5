use Rattle.desk_core.proofs.LegalLaws.{run-legal}
use Rattle.desk_core.proofs.laws.runs_are_legal.Goals as goal

pub returns : goal.returns
returns c = run-legal
