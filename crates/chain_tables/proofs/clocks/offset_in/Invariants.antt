use Rattle.std.proofs.Common.{◌≡◌, length}
use Rattle.chain_tables.specs.Chains.{offset_in}
use Rattle.chain_tables.proofs.clocks.offset_in.Given as goal

abbrev pub invariant-loop-own : goal.invariant-loop-own
invariant-loop-own l = offset_in l.tasks l.offsets l.task ≡ offset_in l.names l.times l.task

abbrev pub decreases-loop-own : goal.decreases-loop-own
decreases-loop-own l = length l.tasks
