use Rattle.std.specs.FinSet as members
use Rattle.task_sheet.specs.Indexes.{indexes_of}
use Rattle.worst_lines.proofs.DecidingLaws.{IsSofar}
use Rattle.worst_lines.proofs.deciding.deciding_order.Given as goal

abbrev pub invariant-loop-task : goal.invariant-loop-task
invariant-loop-task l = IsSofar l.set (indexes_of l.left) l.order.items

abbrev pub decreases-loop-task : goal.decreases-loop-task
decreases-loop-task l = members.len l.left
