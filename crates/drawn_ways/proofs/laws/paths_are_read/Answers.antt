use Rattle.drawn_ways.proofs.WayLaws.{paths_law}
use Rattle.drawn_ways.proofs.laws.paths_are_read.Goals as goal

pub returns : goal.returns
returns c = paths_law
