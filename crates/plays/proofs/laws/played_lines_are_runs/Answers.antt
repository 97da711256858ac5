use Rattle.plays.proofs.RunLaws.{played-run, played-legal}
use Rattle.plays.proofs.laws.played_lines_are_runs.Goals as goal

pub returns : goal.returns
returns c = record { run = played-run; legal = played-legal }
