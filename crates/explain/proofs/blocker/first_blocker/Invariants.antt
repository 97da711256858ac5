use Rattle.task_sheet.specs.Indexes.{indexes_of}
use Rattle.explain.proofs.BlockerLaws.{NoneAmong}
use Rattle.explain.proofs.blocker.first_blocker.Given as goal

abbrev pub invariant-loop-owner : goal.invariant-loop-owner
invariant-loop-owner l = NoneAmong l.set (indexes_of l.members) l.longest l.owner
