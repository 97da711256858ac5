use Rattle.assignment.proofs.LevelLaws.{NoneBelow}
use Rattle.assignment.proofs.level.Level.decided.Given as goal

abbrev pub invariant-loop-task : goal.invariant-loop-task
invariant-loop-task l = NoneBelow l.self l.task
