use Rattle.kept_promises.proofs.BreakLaws.{all_are_kept, none_written}
use Rattle.kept_beside.proofs.RunLaws.{housed, keeps_beside}
use Rattle.observed.specs.Observed.{observed_in}
use Rattle.observed.specs.Promises.{promises_of}
use Rattle.kept_beside.proofs.laws.nothing_is_broken_beside.Goals as goal

pub returns-clause-housed : goal.returns-clause-housed
returns-clause-housed c = λ U numbers places lines run. housed run

pub returns-clause-kept : goal.returns-clause-kept
returns-clause-kept c = λ tolerance U numbers places lines run. all_are_kept tolerance
    (observed_in U (promises_of U numbers places) lines) (keeps_beside run)

pub returns-clause-lines : goal.returns-clause-lines
returns-clause-lines c = λ tolerance U numbers places lines run. none_written tolerance
    (observed_in U (promises_of U numbers places) lines) (keeps_beside run)
