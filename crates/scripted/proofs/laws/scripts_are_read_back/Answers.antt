use Rattle.scripted.proofs.ReadBack.{script_again}
use Rattle.scripted.proofs.laws.scripts_are_read_back.Goals as goal

pub returns : goal.returns
returns c = λ team U from to set. script_again team U from to set
