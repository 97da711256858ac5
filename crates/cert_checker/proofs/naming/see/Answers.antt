use Rattle.std.proofs.Common.{◌≡◌, ◌&&◌, not, nat_lt, true, ℕ, length, sym, ◌∙◌, ap, subst, arith}
use Rattle.task_sheet.specs.Indexes.{indexes_of, with_index}
use Rattle.task_sheet.proofs.MembersIndexes.{indexes_of-insert}
use Rattle.cert_checker.proofs.SeenSteps.{is-new}
use Rattle.cert_checker.proofs.naming.see.Goals as goal

pub returns-then-not-has : goal.returns-then-not-has
returns-then-not-has c =
    let n = length c.args.set.now in
    let seen = indexes_of c.args.seen in
    let new = is-new n c.task_by_name-task.result seen
    (omega (arith, c.len.ensures.count, c.if-task-len.true))
    (sym c.has.ensures ∙ c.if-not-has.true) in (
      subst (λ (k : ℕ). (nat_lt k n && not (seen k)) ≡ true) c.task_by_name-task.ensures.is new,
      ap indexes_of c.with.ensures ∙ indexes_of-insert c.args.seen c.task_by_name-task.result
          ∙ ap (with_index seen) c.task_by_name-task.ensures.is,
    )
