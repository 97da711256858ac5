use Rattle.std.proofs.Common.{◌+◌, ◌-◌, ◌/◌, arith}
use Rattle.chain_limits.proofs.ReachLaws.{found, sought-fails, sought-misses}
use Rattle.chain_limits.proofs.reaches.reach_past.Goals as goal

pub loop-missing-preserved-in-Misses : goal.loop-missing-preserved-in-Misses
loop-missing-preserved-in-Misses c =
    let met = c.loop-missing.met in
    let missing = c.loop-missing.missing in
    let middle = met + (missing - met) / 2 in
    sought-misses c.args.writes c.args.offsets.now c.args.order.now c.args.tasks.now c.args.limit c.args.set.now c.args.task c.args.number
    c.requires.kept c.requires.task c.requires.grows c.args.span.easiest c.args.span.length
    c.requires.span met missing middle c.loop-missing.is_bound c.loop-missing.invariant
    (omega (arith, c.loop-missing-test.true)) (omega (arith, c.loop-missing-test.true))
    (rw (c.in-Misses.is, c.at_distance-value.ensures) at c.in_ok-stands_with.ensures)

pub loop-missing-preserved : goal.loop-missing-preserved
loop-missing-preserved c =
    let met = c.loop-missing.met in
    let missing = c.loop-missing.missing in
    let middle = met + (missing - met) / 2 in
    sought-fails c.args.writes c.args.offsets.now c.args.order.now c.args.tasks.now c.args.limit c.args.set.now c.args.task c.args.number
    c.requires.kept c.requires.task c.requires.grows c.args.span.easiest c.args.span.length
    c.requires.span met missing middle c.loop-missing.is_bound c.loop-missing.invariant
    (omega (arith, c.loop-missing-test.true)) (omega (arith, c.loop-missing-test.true))
    (rw (c.in-Fails.is, c.at_distance-value.ensures) at c.in_ok-stands_with.ensures)

pub returns : goal.returns
returns c =
    found c.args.writes c.args.offsets.now c.args.order.now c.args.tasks.now c.args.limit c.args.set.now c.args.task c.args.number
    c.requires.kept c.requires.task c.requires.grows c.args.span.easiest c.args.span.length
    c.requires.span c.loop-missing.met c.loop-missing.missing c.loop-missing.is_bound
    c.at_distance-furthest.result c.loop-missing.invariant (omega (arith, c.loop-missing-test.false))
    c.at_distance-furthest.ensures
