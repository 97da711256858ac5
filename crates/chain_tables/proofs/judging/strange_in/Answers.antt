use Rattle.std.proofs.Common.{◌∙◌, ap, not, sym}
use Rattle.chain_tables.proofs.TaskLaws.{known-step, strange-step}
use Rattle.chain_tables.proofs.judging.strange_in.Goals as goal

pub returns-then-is_none : goal.returns-then-is_none
returns-then-is_none c =
    sym (strange-step c.args.set.now c.args.chain c.args.tasks.now c.loop-task.task-index
    c.task-item.result c.loop-task-test.true c.task-item.is c.find.result c.find.ensures
    (c.is_none.ensures ∙ ap not c.if-is_none.true)) ∙ c.loop-task.invariant

pub loop-task-preserved : goal.loop-task-preserved
loop-task-preserved c =
    sym (known-step c.args.set.now c.args.chain c.args.tasks.now c.loop-task.task-index
    c.task-item.result c.loop-task-test.true c.task-item.is c.find.result c.find.ensures
    (c.is_none.ensures ∙ ap not c.if-is_none.false)) ∙ c.loop-task.invariant
