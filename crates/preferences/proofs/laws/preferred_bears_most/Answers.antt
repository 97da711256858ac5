use Rattle.task_sheet.proofs.TaskLaws.{AllTasks-from_set}
use Rattle.latest_first.proofs.OneOrder.{AllPrompt-valid, IsOrder-alike, IsLatestFirst-alike}
use Rattle.latest_first.proofs.OneOrder.{IsPassingOrder-latest}
use Rattle.latest_first.proofs.BestLatest.{best-latest}
use Rattle.preferences.proofs.FollowLaws.{FollowLimits-preferred}
use Rattle.preferences.proofs.laws.preferred_bears_most.Goals as goal

pub returns : goal.returns
returns c = record {
  follow = FollowLimits-preferred;
  most = λ U V W order preferred set best alike valid prompt.
      let first = best-latest V (AllTasks-from_set V set) (AllPrompt-valid V set)
      (FollowLimits-preferred U V preferred) order best in (
        λ passing. (order, passing),
        IsPassingOrder-latest W valid prompt order (IsOrder-alike V W
            alike order best.passing.each_once) (IsLatestFirst-alike V W alike order first),
      );
}
