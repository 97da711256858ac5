use Rattle.std.specs.FinSet as members
use Rattle.task_sheet.specs.Indexes.{indexes_of}
use Rattle.worst_lines.proofs.BelowLaws.{IsSofarBelow}
use Rattle.worst_lines.proofs.below.order_below.Given as goal

abbrev pub invariant-loop-next : goal.invariant-loop-next
invariant-loop-next l =
    IsSofarBelow l.set (indexes_of l.fn.conflict) l.fn.task (indexes_of l.left) l.order.items

abbrev pub decreases-loop-next : goal.decreases-loop-next
decreases-loop-next l = members.len l.left
