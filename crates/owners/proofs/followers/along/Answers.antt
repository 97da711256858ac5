use Rattle.std.proofs.Common.{sym, ◌∙◌, arith}
use Rattle.owners.proofs.FollowerLaws.{along-start, along-more, along-last, along-end}
use Rattle.owners.proofs.followers.along.Goals as goal

pub loop-next-init : goal.loop-next-init
loop-next-init c = along-start c.args.owners.now c.args.name.now c.args.place c.args.behind

pub loop-next-preserved : goal.loop-next-preserved
loop-next-preserved c = omega (
  arith,
  c.loop-next.invariant,
  along-more c.args.owners.now c.args.name.now c.args.place c.args.behind c.loop-next.next
      c.loop-next-test.true (sym c.follows.ensures ∙ c.if-not-follows.false),
)

pub returns-then-not-follows-clause-is : goal.returns-then-not-follows-clause-is
returns-then-not-follows-clause-is c = omega (
  arith,
  c.loop-next.invariant,
  along-last c.args.owners.now c.args.name.now c.args.place c.args.behind c.loop-next.next
      (sym c.follows.ensures ∙ c.if-not-follows.true),
)

pub returns-clause-is : goal.returns-clause-is
returns-clause-is c = omega (
  arith,
  c.loop-next.invariant,
  along-end c.args.owners.now c.args.name.now c.args.place c.args.behind c.loop-next.next
      (omega (arith, c.loop-next-test.false)),
)
