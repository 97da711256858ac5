use Rattle.std.proofs.Common.{◌∙◌, sym}
use Rattle.task_sheet.specs.Indexes.{indexes_of}
use Rattle.kept_order.proofs.KeepsLaws.{held-step}
use Rattle.kept_order.proofs.climbing.is_held.Goals as goal

pub returns-then-holds : goal.returns-then-holds
returns-then-holds c =
    let step = held-step c.args.kept.now (indexes_of c.args.others) c.args.task c.loop-place.place
    c.holds.result c.loop-place-test.true c.holds.ensures in
    sym (c.loop-place.invariant ∙ rw c.if-holds.true at step)

pub loop-place-preserved : goal.loop-place-preserved
loop-place-preserved c =
    let step = held-step c.args.kept.now (indexes_of c.args.others) c.args.task c.loop-place.place
    c.holds.result c.loop-place-test.true c.holds.ensures in
    c.loop-place.invariant ∙ rw c.if-holds.false at step
