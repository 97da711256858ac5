use Rattle.std.proofs.Common.{arith}
use Rattle.chain_limits.proofs.OrderedLaws.{part-strange}
use Rattle.chain_limits.proofs.bound.part_behind.Goals as goal

pub returns-then-task-len : goal.returns-then-task-len
returns-then-task-len c levels are same =
    part-strange c.args.writes c.args.set.now c.sheets-sheets.ensures.kept c.args.task
    c.args.others.now
    (omega (arith, c.len.ensures.count, c.if-task-len.true)) levels are
