use Rattle.std.proofs.Common.{◌∙◌, ap}
use Rattle.task_sheet.specs.Indexes.{indexes_of}
use Rattle.task_sheet.proofs.MembersIndexes.{indexes_of-empty}
use Rattle.assignment.proofs.MemberLaws.{members_step}
use Rattle.assignment.proofs.members.members_of.Goals as goal

pub loop-task-init : goal.loop-task-init
loop-task-init c = ap indexes_of c.empty-members.ensures ∙ indexes_of-empty

pub loop-task-preserved : goal.loop-task-preserved
loop-task-preserved c = members_step c.loop-task.members c.with-members.result c.args.tasks.now
    c.loop-task.task-index c.loop-task-test.true c.loop-task.invariant c.with-members.ensures
