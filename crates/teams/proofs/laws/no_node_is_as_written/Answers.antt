use Rattle.teams.proofs.WrittenLaws.{as_written, written}
use Rattle.teams.proofs.laws.no_node_is_as_written.Goals as goal

pub returns : goal.returns
returns c = λ text d none bare. (as_written text d none bare, written text d none bare)
