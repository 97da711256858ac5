use Rattle.teams.proofs.BudgetLaws.{no_fault}
use Rattle.teams.proofs.laws.kept_is_within.Goals as goal

pub returns : goal.returns
returns c = no_fault
