use Rattle.task_sheet.specs.Indexes.{indexes_of}
use Rattle.explain.specs.Blocking.{HasNoneBefore}
use Rattle.explain.proofs.blocker.first_of.Given as goal

abbrev pub invariant-loop-place : goal.invariant-loop-place
invariant-loop-place l = HasNoneBefore l.set (indexes_of l.members) l.task l.len l.place
