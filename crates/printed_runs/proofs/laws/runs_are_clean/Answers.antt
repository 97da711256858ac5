use Rattle.printed_runs.proofs.CleanLaws.{clean, refused}
use Rattle.printed_runs.proofs.laws.runs_are_clean.Goals as goal

pub returns-clause-seen : goal.returns-clause-seen
returns-clause-seen c = λ tolerance U places rs until trace sight set best ran is. clean U places rs
    until trace set best ran tolerance sight is

pub returns-clause-refused : goal.returns-clause-refused
returns-clause-refused c =
    λ U places rs until trace e set best ran is. refused U places rs until trace set best ran e is
