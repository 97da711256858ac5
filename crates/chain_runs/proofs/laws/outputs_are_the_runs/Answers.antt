use Rattle.chain_runs.proofs.RunLaws.{outputs_law}
use Rattle.chain_runs.proofs.laws.outputs_are_the_runs.Goals as goal

pub returns : goal.returns
returns c = outputs_law
