use Rattle.run_lines.proofs.ResponseLaws.{all_within}
use Rattle.run_lines.proofs.laws.responses_hold.Goals as goal

pub returns-clause-done : goal.returns-clause-done
returns-clause-done c =
    λ U places rs until trace set best ran. (all_within U places rs until trace set best ran).0

pub returns-clause-reached : goal.returns-clause-reached
returns-clause-reached c =
    λ U places rs until trace set best ran. (all_within U places rs until trace set best ran).1
