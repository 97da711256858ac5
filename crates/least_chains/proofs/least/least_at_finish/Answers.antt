use Rattle.std.proofs.Common.{arith}
use Rattle.task_sheet.proofs.Common.{indexes_of}
use Rattle.least_chains.proofs.AboveLaws.{least_above-part, least_above-stands}
use Rattle.least_chains.proofs.PartLaws.{least-part, strange-least}
use Rattle.least_chains.proofs.least.least_at_finish.Goals as goal

pub returns-then-task-len : goal.returns-then-task-len
returns-then-task-len c = strange-least c.args.set.now c.sheets.ensures.kept c.args.task c.args.others.now
    (omega (arith, c.len.ensures.count, c.if-task-len.true)) c.requires

pub least_time-requires-clause-part : goal.least_time-requires-clause-part
least_time-requires-clause-part c =
    least_above-part c.args.set.now c.args.task (indexes_of c.above_at_least-above.result)
    c.above_at_least-above.ensures

pub unreachable-requires : goal.unreachable-requires
unreachable-requires c =
    c.in-None.ensures.none (least_above-stands c.args.set.now c.args.task
    (indexes_of c.above_at_least-above.result) c.sheets.ensures.kept
    (omega (arith, c.len.ensures.count, c.if-task-len.false)) c.above_at_least-above.ensures).0

pub returns : goal.returns
returns c = rw c.least_time.ensures
    (least-part c.args.set.now c.sheets.ensures.kept c.args.task
    (indexes_of c.above_at_least-above.result) c.in-Some.response
    (omega (arith, c.len.ensures.count, c.if-task-len.false)) c.above_at_least-above.ensures
    c.in-Some.ensures.some.0 c.args.others.now)
