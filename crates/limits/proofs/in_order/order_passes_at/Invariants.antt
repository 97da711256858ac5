use Rattle.std.proofs.Common.{◌↔◌, drop}
use Rattle.response_time.specs.Slowed.{PassesAt}
use Rattle.latest_first.specs.Tested.{AllStandBy, IsPassingBy}
use Rattle.limits.proofs.in_order.order_passes_at.Given as goal

abbrev pub invariant-loop-place : goal.invariant-loop-place
invariant-loop-place l = IsPassingBy (PassesAt l.factor l.set) l.set l.order
    ↔ AllStandBy (PassesAt l.factor l.set) l.set (drop l.place l.order)
