use Rattle.std.proofs.Common.{◌∙◌, ◌<◌, length, reverse, ap, arith}
use Rattle.std.proofs.lemmas.List.Elements.{All-map}
use Rattle.task_sheet.specs.Indexes.{among}
use Rattle.explain.proofs.NeedLaws.{All-reversed}
use Rattle.judge.specs.Judgements.{order_judged}
use Rattle.judge.specs.declared.judging.JudgedTask.{JudgedTask}
use Rattle.judge.proofs.missed.missed_account.Goals as goal

pub members_of-members-requires : goal.members_of-members-requires
members_of-members-requires c =
    rw (c.deref.ensures.value, c.in_ok-order.ensures)
    (All-map (λ k. k < 32) (λ (j : JudgedTask). j.task) c.args.above.now
    (λ k d lt. omega (arith, c.requires.above k d lt, c.sheets.ensures.kept.few)))

pub needs_account-requires-clause-within : goal.needs_account-requires-clause-within
needs_account-requires-clause-within c =
    let n = length c.args.set.now in
    rw (c.deref-2.ensures.value, c.reverse.ensures.items, c.in_ok-order.ensures)
    (All-reversed (λ k. k < n) (order_judged c.args.above.now)
    (All-map (λ k. k < n) (λ (j : JudgedTask). j.task) c.args.above.now c.requires.above))

pub needs_account-requires-clause-fails : goal.needs_account-requires-clause-fails
needs_account-requires-clause-fails c = λ passes.
    c.requires.misses (rw (
      c.members_of-members.ensures,
      c.deref.ensures.value,
      c.in_ok-order.ensures,
    ) at passes)

pub returns : goal.returns
returns c =
    let these = c.members_of-members.ensures
    ∙ ap among (c.deref.ensures.value ∙ c.in_ok-order.ensures) in
    let listed = c.deref-2.ensures.value ∙ c.reverse.ensures.items
    ∙ ap reverse c.in_ok-order.ensures in
    rw (these, listed) at c.needs_account.ensures
