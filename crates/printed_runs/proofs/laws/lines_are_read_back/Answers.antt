use Rattle.printed_runs.proofs.RunLaws.{in_order, read_back}
use Rattle.printed_runs.proofs.laws.lines_are_read_back.Goals as goal

pub returns-clause-rows : goal.returns-clause-rows
returns-clause-rows c = read_back

pub returns-clause-sound : goal.returns-clause-sound
returns-clause-sound c = in_order
