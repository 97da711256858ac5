use Rattle.kept_promises.proofs.BreakLaws.{all_are_kept, none_written}
use Rattle.kept_promises.proofs.SeenLaws.{all_seen, housed, keeps_to_demand}
use Rattle.kept_promises.specs.KeptPromises.{KeepsToDemand}
use Rattle.observed.specs.Observed.{observed_in}
use Rattle.observed.specs.Promises.{promises_of}
use Rattle.kept_promises.proofs.laws.nothing_is_broken.Goals as goal

pub returns-clause-housed : goal.returns-clause-housed
returns-clause-housed c = λ U numbers places lines run. housed run numbers

pub returns-clause-kept : goal.returns-clause-kept
returns-clause-kept c = λ tolerance U numbers places lines run. all_are_kept tolerance
    (observed_in U (promises_of U numbers places) lines) (all_seen run numbers KeepsToDemand (keeps_to_demand run numbers))

pub returns-clause-lines : goal.returns-clause-lines
returns-clause-lines c = λ tolerance U numbers places lines run. none_written tolerance
    (observed_in U (promises_of U numbers places) lines) (all_seen run numbers KeepsToDemand (keeps_to_demand run numbers))
