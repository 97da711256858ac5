use Rattle.std.specs.FinSet as members
use Rattle.task_sheet.specs.Indexes.{indexes_of}
use Rattle.response_time.specs.Slowed.{PassesAt}
use Rattle.assignment.proofs.FeasibilityLaws.{IsLeading}
use Rattle.assignment.proofs.feasibility.obstruction_at.Given as goal

abbrev pub invariant-loop-task : goal.invariant-loop-task
invariant-loop-task l = IsLeading (PassesAt l.factor l.set) l.set (indexes_of l.left)

abbrev pub decreases-loop-task : goal.decreases-loop-task
decreases-loop-task l = members.len l.left
