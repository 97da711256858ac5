use Rattle.chain_runs.proofs.AgeLaws.{within_law}
use Rattle.chain_runs.proofs.laws.runs_are_within.Goals as goal

pub returns : goal.returns
returns c = within_law
