use Rattle.interrupted_runs.proofs.SourceLaws.{counted}
use Rattle.interrupted_runs.proofs.laws.sources_are_counted.Goals as goal

pub returns : goal.returns
returns c = λ comes node jobs cs is_node legal comings from. counted node jobs is_node legal cs comings comes from
