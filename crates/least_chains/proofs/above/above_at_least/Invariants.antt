use Rattle.std.specs.FinSet as members
use Rattle.task_sheet.specs.Indexes.{indexes_of}
use Rattle.least_chains.proofs.AboveLaws.{IsClimbed}
use Rattle.least_chains.proofs.above.above_at_least.Given as goal

abbrev pub invariant-loop-other : goal.invariant-loop-other
invariant-loop-other l = IsClimbed l.set l.task (indexes_of l.left)

abbrev pub decreases-loop-other : goal.decreases-loop-other
decreases-loop-other l = members.len l.left
