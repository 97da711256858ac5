use Rattle.overheads.proofs.PaddedSets.{fault-lighter}
use Rattle.overheads.proofs.laws.lighter_node_has_room.Goals as goal

pub returns : goal.returns
returns c = fault-lighter
