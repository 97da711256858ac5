use Rattle.cert_checker.proofs.LevelSteps.{levels-known}
use Rattle.cert_checker.proofs.checking.order_fault.Goals as goal

pub levels_fault-requires : goal.levels_fault-requires
levels_fault-requires c = levels-known c.args.set.now c.args.levels.now c.is_order.result
    c.is_order.ensures c.if-not-is_order.false

pub levels_fault-requires-2 : goal.levels_fault-requires-2
levels_fault-requires-2 c = levels-known c.args.set.now c.args.levels.now c.is_order.result
    c.is_order.ensures c.if-not-is_order.false

pub levels_fault-requires-3 : goal.levels_fault-requires-3
levels_fault-requires-3 c = levels-known c.args.set.now c.args.levels.now c.is_order.result
    c.is_order.ensures c.if-not-is_order.false

pub levels_fault-requires-4 : goal.levels_fault-requires-4
levels_fault-requires-4 c = levels-known c.args.set.now c.args.levels.now c.is_order.result
    c.is_order.ensures c.if-not-is_order.false
