use Rattle.chains.proofs.WriteLaws.{written_done}
use Rattle.chains.proofs.laws.writes_are_done.Goals as goal

pub returns : goal.returns
returns c = written_done
