use Rattle.std.proofs.Common.{◌≡◌, ℕ, List, length, subst, arith}
use Rattle.task_sheet.proofs.Common.{Task, task_at, sum_below, interrupts_of, interrupts_within}
use Rattle.cert_checker.proofs.work.interrupts_within.Goals as goal

pub returns-clause-is : goal.returns-clause-is
unfolding interrupts_within
returns-clause-is c =
    let items = c.sheets-sheet-items.result.now in
    let all : c.loop-sheet.sheet-index ≡ length items = omega arith in
    let P : ℕ → List Task → Type 0 =
    λ n V. c.loop-sheet.taken ≡ sum_below n (λ k. interrupts_of c.args.time (task_at V k)) in
    subst (λ V. P (length V) V) c.sheets-sheet-items.ensures.same
    (subst (λ n. P n items) all c.loop-sheet.invariant.total)
