-- By limits the ranks follow the limits.
use Rattle.std.proofs.Common.{◌<◌, inl, inr, List, length, arith}
use Rattle.task_sheet.proofs.Common.{Task, IsByRank}
use Rattle.latest_first.specs.LatestFirst.{FollowLimits}
use Rattle.preferences.specs.Preferences.{reweighed}
use Rattle.preferences.proofs.LimitLaws.{rank-lower}

pub FollowLimits-preferred : (U V : List Task) → IsByRank (reweighed U) V → FollowLimits V
FollowLimits-preferred U V preferred i j lt within =
    let within' : i < length V = omega arith in
    elim ((rank-lower U V preferred i j within' within).0 lt) [
      | inl longer ↦ omega (arith, longer)
      | inr same ↦ omega (arith, same.0)
    ]
