use Rattle.std.proofs.Common.{ℕ, ◌+◌, ◌≤◌, List, arith}
use Rattle.task_sheet.proofs.Common.{Task, AllTasks, IsOrder}
use Rattle.task_sheet.proofs.TaskLaws.{AllTasks-from_set}
use Rattle.latest_first.specs.LatestFirst.{AllPrompt, IsLatestFirst}
use Rattle.latest_first.proofs.OneOrder.{AllPrompt-valid, IsPassingBy-latest}
use Rattle.latest_first.proofs.BestLatest.{best-latest}
use Rattle.preferences.proofs.FollowLaws.{FollowLimits-preferred}
use Rattle.margins.specs.Bearing.{Bears}
use Rattle.margins.proofs.laws.latest_first_is_robust.Goals as goal

Bears-latest : (U : List Task) (extra : ℕ) (order other : List ℕ) → AllTasks U → AllPrompt U
    → IsOrder U order → IsLatestFirst U order → Bears U extra other → Bears U extra order
Bears-latest U extra order other valid prompt each first bears =
    IsPassingBy-latest (λ need time. need + extra ≤ time) (λ low high time le more. omega (arith, le, more))
    U valid prompt order each first (other, bears)

pub returns-clause-most : goal.returns-clause-most
returns-clause-most c = Bears-latest

pub returns-clause-preferred : goal.returns-clause-preferred
returns-clause-preferred c = λ U V extra order other preferred set best.
    let valid = AllTasks-from_set V set in
    let prompt = AllPrompt-valid V set in
    Bears-latest V extra order other valid prompt best.passing.each_once
    (best-latest V valid prompt (FollowLimits-preferred U V preferred) order best)
