use Rattle.assignment.proofs.AskLaws.{IsAsking}
use Rattle.assignment.proofs.assigning.decide.Given as goal

abbrev pub invariant-loop-task : goal.invariant-loop-task
invariant-loop-task l = IsAsking l.fn.level.set l.fn.level.left l.level l.task
