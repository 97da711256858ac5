use Rattle.scripted.proofs.ReadBack.{teams_again}
use Rattle.scripted.proofs.laws.team_scripts_are_read_back.Goals as goal

pub returns : goal.returns
returns c = λ parts few all. teams_again parts few all
