use Rattle.std.proofs.Common.{◌≡◌, ◌++◌, drop, map}
use Rattle.chain_traces.specs.Outputs.{fresh}
use Rattle.chain_traces.proofs.outputs.fresh.Given as goal

abbrev pub invariant-loop-task : goal.invariant-loop-task
invariant-loop-task l = l.watches.items ++ map fresh (drop l.task-index l.tasks) ≡ map fresh l.tasks
