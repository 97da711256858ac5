-- How often tasks are released, and interrupts come, within a time.
use Rattle.std.proofs.Common.{ℕ, ◌+◌, ◌*◌, ◌<◌, ◌≤◌, Bool, true, false, cond, List, [], ◌∷◌, sum_by}
use Rattle.std.proofs.Common.{arith}
use Rattle.std.specs.Int.{div_ceil}
use Rattle.std.proofs.lemmas.Grind.{div_ceil_times}
use Rattle.std.proofs.lemmas.List.Sums.{sum_by-cons}
use Rattle.std.proofs.Math.Nat.{mul-le-mul_left}
use Rattle.task_sheet.specs.declared.node.Interrupt.{Interrupt}
use Rattle.task_sheet.specs.Sheet.{Task, IsInterrupt}
use Rattle.task_sheet.specs.Demand.{later_releases, later_interrupts}
use Rattle.candidate_workers.specs.Threads.{comes_within, events_within}

pub comes-few : (time : ℕ) (x : Interrupt) → IsInterrupt x → time ≤ 10000000
    → comes_within time x ≤ 200000
comes-few time x valid le =
    let some : 0 < x.period = omega (arith, valid.period_from) in
    let jobs = div_ceil (time + 0) x.period in
    let least : jobs * 100 ≤ jobs * x.period = mul-le-mul_left jobs valid.period_from in
    omega (arith, (div_ceil_times (time + 0) x.period some).1, least, valid.period_to)

-- those beyond the first tick are some of all
later-few : (time : ℕ) (xs : List Interrupt)
    → sum_by (later_interrupts time) xs ≤ sum_by (comes_within time) xs
later-few time [] = omega arith
later-few time (x ∷ xs) =
    omega (
      arith,
      later-few time xs,
      sum_by-cons (later_interrupts time) x xs,
      sum_by-cons
          (comes_within time) x xs,
    )

pub later-within : (counts : Bool) (time : ℕ) (t : Task) → cond counts (later_releases time t)
    0 + sum_by (later_interrupts time) t.interrupts ≤ events_within time t
later-within true time t = omega (arith, later-few time t.interrupts)
later-within false time t = omega (arith, later-few time t.interrupts)
