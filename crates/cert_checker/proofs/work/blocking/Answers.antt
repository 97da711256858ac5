use Rattle.std.proofs.Common.{◌≡◌, ℕ, List, cond, length, ap, ◌∙◌, subst, arith}
use Rattle.task_sheet.proofs.Common.{Task, task_at, Indexes, indexes_of, greatest_below}
use Rattle.task_sheet.proofs.Common.{blocking_of, longest_reached}
use Rattle.task_sheet.proofs.MembersIndexes.{indexes_of-insert}
use Rattle.cert_checker.proofs.work.blocking.Goals as goal

pub returns : goal.returns
unfolding blocking_of
returns c =
    let U = c.args.set.now in
    let items = c.sheets-sheets.result.now in
    let all : c.loop-k.k ≡ length items = omega arith in
    let P : ℕ → List Task → Indexes → Type 0 = λ n V X. c.loop-k.longest
    ≡ greatest_below n (λ k. cond (X k) 0 (longest_reached U X (task_at V k))) in
    let at_all = subst (λ n. P n items (indexes_of c.with-members.result)) all c.loop-k.invariant in
    let in_set = subst (λ V. P (length V) V (indexes_of c.with-members.result))
    c.sheets-sheets.ensures.same at_all in
    subst (P (length U) U) (ap indexes_of c.with-members.ensures
    ∙ indexes_of-insert c.args.above c.args.task) in_set
