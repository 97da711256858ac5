use Rattle.std.proofs.Common.{◌∙◌, ap, sym, arith}
use Rattle.std.proofs.lemmas.Bool.{both_ways}
use Rattle.task_sheet.specs.Indexes.{indexes_of}
use Rattle.task_sheet.proofs.MembersIndexes.{indexes_of-insert}
use Rattle.explain.proofs.BlockerLaws.{NoneAmong-more, first-found, none-found}
use Rattle.explain.proofs.blocker.first_blocker.Goals as goal
use Rattle.explain.proofs.blocker.first_blocker.Goals.{then-not-has+in_default, else-not-has}

pub loop-owner-init : goal.loop-owner-init
loop-owner-init c = λ k lt. absurd (omega arith)

pub returns-in-Some : goal.returns-in-Some
returns-in-Some c =
    let same = ap indexes_of c.with-members.ensures ∙ indexes_of-insert c.args.above c.args.task in
    first-found c.args.set.now c.args.task (indexes_of c.args.above)
    (indexes_of c.with-members.result) c.blocking-longest.result c.loop-owner.owner
    c.in-Some.found same c.blocking-longest.ensures.is
    (omega (arith, c.len-owner-end.ensures.count, c.loop-owner-test.true))
    (sym c.has.ensures ∙ c.if-not-has.true) c.loop-owner.invariant c.in-Some.ensures.some

pub loop-owner-preserved : goal.loop-owner-preserved
loop-owner-preserved c =
    let X = indexes_of c.with-members.result in
    NoneAmong-more c.args.set.now X c.blocking-longest.result c.loop-owner.owner
    c.loop-owner.invariant (elim c.if-not-has.branch [
      | then-not-has+in_default w ↦ λ outside. w.in_default.ensures.none
      | else-not-has w ↦ λ outside.
          absurd (both_ways (X c.loop-owner.owner) outside (sym c.has.ensures ∙ w.if-not-has.false))
    ])

pub returns : goal.returns
returns c =
    let same = ap indexes_of c.with-members.ensures ∙ indexes_of-insert c.args.above c.args.task in
    none-found c.args.set.now c.args.task (indexes_of c.args.above) (indexes_of
    c.with-members.result) c.blocking-longest.result same c.blocking-longest.ensures.is
    (λ k lt. c.loop-owner.invariant k
    (omega (arith, lt, c.len-owner-end.ensures.count, c.loop-owner-test.false)))
