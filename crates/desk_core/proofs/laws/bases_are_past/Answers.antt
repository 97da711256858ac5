use Rattle.desk_core.proofs.LegalLaws.{base-past}
use Rattle.desk_core.proofs.laws.bases_are_past.Goals as goal

pub returns : goal.returns
returns c = base-past
