use Rattle.std.proofs.Common.{◌≡◌, drop}
use Rattle.chain_tables.specs.Chains.{strange_in}
use Rattle.chain_tables.proofs.judging.strange_in.Given as goal

abbrev pub invariant-loop-task : goal.invariant-loop-task
invariant-loop-task l =
    strange_in l.set l.chain (drop l.task-index l.tasks) ≡ strange_in l.set l.chain l.tasks
