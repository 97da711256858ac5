use Rattle.drawn_runs.proofs.ApartLaws.{rows_apart}
use Rattle.drawn_runs.proofs.laws.rows_are_apart.Goals as goal

pub returns : goal.returns
returns c = rows_apart
