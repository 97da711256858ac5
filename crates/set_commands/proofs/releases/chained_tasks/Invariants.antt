use Rattle.std.proofs.Common.{◌≡◌, ◌++◌, drop}
use Rattle.set_commands.specs.Releases.{chained_tasks}
use Rattle.set_commands.proofs.releases.chained_tasks.Given as goal

abbrev pub invariant-loop-chain : goal.invariant-loop-chain
invariant-loop-chain l = l.tasks.items ++ chained_tasks (drop l.chain-index l.chains) ≡ chained_tasks l.chains
