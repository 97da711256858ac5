use Rattle.std.proofs.Common.{◌≡◌, ◌++◌, drop, map}
use Rattle.chain_runs.specs.Outputs.{fresh}
use Rattle.chain_runs.proofs.outputs.fresh.Given as goal

abbrev pub invariant-loop-task : goal.invariant-loop-task
invariant-loop-task l = l.stations.items ++ map fresh (drop l.task-index l.tasks) ≡ map fresh l.tasks
