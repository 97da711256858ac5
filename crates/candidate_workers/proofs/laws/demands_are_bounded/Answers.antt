use Rattle.std.proofs.Common.{ℕ, ◌+◌, length, cond, sum_by, arith}
use Rattle.task_sheet.specs.Sheet.{task_at}
use Rattle.task_sheet.specs.Demand.{counts, later_releases, later_interrupts, limit_of}
use Rattle.task_sheet.proofs.Below.{sum_below-le}
use Rattle.candidate_workers.specs.Threads.{events_within}
use Rattle.candidate_workers.proofs.EventLaws.{later-within}
use Rattle.candidate_workers.proofs.laws.demands_are_bounded.Goals as goal

pub returns : goal.returns
returns c = λ U t H.
    let limit : ℕ = limit_of t in
    let later : ℕ → ℕ = λ k. cond (counts U H k) (later_releases limit (task_at U k)) 0 + sum_by
    (later_interrupts limit) (task_at U k).interrupts in
    let parts = sum_below-le (length U) later (λ k. events_within limit (task_at U k))
    (λ k lt. later-within (counts U H k) limit (task_at U k)) in
    omega (arith, parts)
