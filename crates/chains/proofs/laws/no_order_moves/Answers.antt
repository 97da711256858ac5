use Rattle.chains.proofs.PartLaws.{no_order_law}
use Rattle.chains.proofs.laws.no_order_moves.Goals as goal

pub returns : goal.returns
returns c = no_order_law
