-- What a response counts of a task above.
use Rattle.std.proofs.Common.{ℕ, ◌+◌, ◌*◌, ◌<◌, ◌≤◌, ◌≡◌, inl, inr, refl, arith, length, nat_lt}
use Rattle.std.proofs.Common.{true, if◌then◌else◌}
use Rattle.std.proofs.lemmas.Bool.{cases_lt, lt-ltb}
use Rattle.std.proofs.lemmas.Grind.{div_ceil_times}
use Rattle.std.proofs.Math.Nat.{mul-le-mul_right}
use Rattle.task_sheet.proofs.Common.{Task, task_at, demand_of, releases_within}
use Rattle.task_sheet.proofs.Common.{interference_of}
use Rattle.task_sheet.proofs.Below.{sum_below-gap}
use Rattle.ceiling_kernel.proofs.Common.{Node, above_of, level_in_order, IsNode}
use Rattle.ceiling_kernel.proofs.NodeLaws.{sound}
use Rattle.chains.specs.Handovers.{ResponsesCount}

-- in a window one job or more counts
one_counts : (x : Task) (t : ℕ) → 0 < t → 0 < x.period → x.cost ≤ interference_of x t
one_counts x t some period =
    let b = div_ceil_times (t + x.jitter) x.period period in
    let one : 1 ≤ releases_within x t = elim (cases_lt 0 (releases_within x t)) [
      | inl more ↦ more
      | inr none ↦
          let z : releases_within x t ≡ 0 = omega arith in
          let nothing : releases_within x t * x.period ≡ 0 = rw z (omega arith) in
          absurd (omega (arith, b.0))
    ] in
    omega (arith, mul-le-mul_right x.cost one)

pub count_law : (node : Node) → IsNode node → ResponsesCount node
unfolding demand_of
count_law node valid i c r lt responds above =
    let some = responds.passes.from_one in
    let enough = responds.passes.enough in
    let is_r = responds.response in
    let up : nat_lt (level_in_order node i) (level_in_order node c) ≡ true =
    lt-ltb (level_in_order node i) (level_in_order node c) above in
    let term = sum_below-gap (length node.tasks) (λ h. 0)
    (λ h. if above_of node i h then interference_of (task_at node.tasks h) responds.time else 0) c
    (λ h. omega arith) lt refl in
    let mine = rw up at term in
    omega (
      arith,
      one_counts (task_at node.tasks c) responds.time some ((sound node valid).each c lt).period_from_one,
    )
