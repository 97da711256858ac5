use Rattle.cut_runs.proofs.CutLaws.{cut_is_run}
use Rattle.cut_runs.proofs.laws.cuts_are_run.Goals as goal

pub returns : goal.returns
returns c = cut_is_run
