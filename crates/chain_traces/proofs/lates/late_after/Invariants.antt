use Rattle.std.proofs.Common.{◌≡◌, ◌+◌, ◌*◌, ◌^◌, ◌≤◌, length, sum_by}
use Rattle.chain_traces.specs.Lates.{late_of}
use Rattle.chain_traces.proofs.lates.late_after.Given as goal

abbrev pub invariant-loop-task : goal.invariant-loop-task
invariant-loop-task l = record {
  sum : l.most + sum_by (late_of l.seen) l.rest ≡ l.bound + sum_by (late_of l.seen) l.tasks;
  room : l.most + length l.rest * 2 ^ 64 ≤ length l.tasks * 2 ^ 65;
}

abbrev pub decreases-loop-task : goal.decreases-loop-task
decreases-loop-task l = length l.rest
