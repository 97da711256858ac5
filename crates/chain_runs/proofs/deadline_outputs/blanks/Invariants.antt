use Rattle.std.proofs.Common.{◌≡◌, ◌++◌, drop, map}
use Rattle.chain_runs.specs.DeadlineOutputs.{blank}
use Rattle.chain_runs.proofs.deadline_outputs.blanks.Given as goal

abbrev pub invariant-loop-task : goal.invariant-loop-task
invariant-loop-task l = l.registers.items ++ map blank (drop l.task-index l.tasks) ≡ map blank l.tasks
