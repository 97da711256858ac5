use Rattle.std.proofs.Common.{ℕ, ◌+◌, List, take}
use Rattle.kept_order.specs.Keeping.{IsPassingKept}
use Rattle.kept_order.proofs.KeepsLaws.{IsFirstParted-at}
use Rattle.kept_order.proofs.first_parted.Goals as goal

pub returns-in-None : goal.returns-in-None
returns-in-None c =
    let U = c.args.set.now in
    let K = c.args.kept.now in
    let n = c.loop-high.high in
    let none : (order : List ℕ) → ¬ IsPassingKept U (take (n + 1) K) order =
    rw c.in-None.is at c.in_ok-climb.ensures.none in
    rw c.parted_at.ensures (IsFirstParted-at U K n c.loop-high.invariant.from
    c.loop-high-test.true c.loop-high.invariant.some none)
