use Rattle.std.proofs.Common.{[]}
use Rattle.interrupted_runs.proofs.SeenLaws.{keeps, taken_within}
use Rattle.interrupted_runs.proofs.laws.seen_keeps_to_the_demand.Goals as goal

pub returns-clause-taken : goal.returns-clause-taken
returns-clause-taken c = λ comes node counted. taken_within comes node [] counted

pub returns-clause-keeps : goal.returns-clause-keeps
returns-clause-keeps c = λ comes node jobs seen is_node legal counted is. keeps comes node jobs is_node legal counted seen is
