use Rattle.std.proofs.Common.{get_or, arith}
use Rattle.std.proofs.lemmas.Bool.{both_ways}
use Rattle.ceiling_kernel.specs.Tick.{node_in}
use Rattle.miss.specs.Shown.{PassesThere}
use Rattle.miss.proofs.MemberLaws.{above_at, lowest_failing, all_above}
use Rattle.miss.proofs.RanLaws.{each_more}
use Rattle.miss.proofs.reason.fails_above.Goals as goal

pub members_above-requires-clause-task : goal.members_above-requires-clause-task
members_above-requires-clause-task c = above_at (node_in c.args.set.now c.args.order.now)
    (record { tasks = c.sheets.ensures.kept; order = c.requires.order }) c.args.task c.requires.task
    c.above-higher-items.result.now c.above-higher-items.ensures c.loop-higher.higher-index
    c.loop-higher-test.true

pub passes-holds-requires : goal.passes-holds-requires
passes-holds-requires c = above_at (node_in c.args.set.now c.args.order.now)
    (record { tasks = c.sheets.ensures.kept; order = c.requires.order }) c.args.task c.requires.task
    c.above-higher-items.result.now c.above-higher-items.ensures c.loop-higher.higher-index
    c.loop-higher-test.true

pub returns-then-not-holds-clause-some : goal.returns-then-not-holds-clause-some
returns-then-not-holds-clause-some c =
    lowest_failing (node_in c.args.set.now c.args.order.now)
    (record { tasks = c.sheets.ensures.kept; order = c.requires.order }) c.args.task c.requires.task
    c.above-higher-items.result.now c.above-higher-items.ensures c.loop-higher.higher-index
    c.loop-higher-test.true c.loop-higher.invariant
    (λ p. both_ways _ c.if-not-holds.true
    (c.passes-holds.ensures.1 (rw c.members_above.ensures p)))

pub loop-higher-preserved : goal.loop-higher-preserved
loop-higher-preserved c =
    each_more (λ q. PassesThere (node_in c.args.set.now c.args.order.now)
    (get_or c.above-higher-items.result.now q 0)) c.loop-higher.higher-index c.loop-higher.invariant
    (rw c.members_above.ensures at (c.passes-holds.ensures.0 c.if-not-holds.false))

pub returns-clause-none : goal.returns-clause-none
returns-clause-none c =
    all_above (node_in c.args.set.now c.args.order.now)
    (record { tasks = c.sheets.ensures.kept; order = c.requires.order }) c.args.task c.requires.task
    c.above-higher-items.result.now c.above-higher-items.ensures
    (λ q lt. c.loop-higher.invariant q (omega (arith, lt, c.loop-higher-test.false)))
