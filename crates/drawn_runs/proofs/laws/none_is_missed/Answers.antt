use Rattle.drawn_runs.proofs.LateLaws.{all_on_time, best_rows, none_missed}
use Rattle.drawn_runs.proofs.laws.none_is_missed.Goals as goal

pub returns-clause-late : goal.returns-clause-late
returns-clause-late c =
    λ U places rs until trace rows v run. all_on_time v run

pub returns-clause-counted : goal.returns-clause-counted
returns-clause-counted c =
    λ U places rs until trace rows v run. none_missed v run

pub returns-clause-rows : goal.returns-clause-rows
returns-clause-rows c = best_rows
