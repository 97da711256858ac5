use Rattle.task_sheet.proofs.TaskLaws.{AllTasks-from_set}
use Rattle.latest_first.proofs.OneOrder.{AllPrompt-valid, IsOrder-alike, IsLatestFirst-alike}
use Rattle.latest_first.proofs.OneOrder.{IsPassingOrder-latest}
use Rattle.latest_first.proofs.laws.latest_first_decides.Goals as goal

pub returns : goal.returns
returns c = record {
  one = λ U order valid prompt each first.
      (λ passing. (order, passing), IsPassingOrder-latest U valid prompt order each first);
  bears = λ U V order alike valid prompt each first. (
    λ passing. (order, passing),
    IsPassingOrder-latest V valid prompt order
        (IsOrder-alike U V alike order each) (IsLatestFirst-alike U V alike order first),
  );
  valid = λ U set. (AllTasks-from_set U set, AllPrompt-valid U set);
}
