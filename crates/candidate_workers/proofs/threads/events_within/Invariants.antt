use Rattle.std.proofs.Common.{◌≡◌, ◌≤◌, ◌+◌, ◌*◌, take, sum_by}
use Rattle.candidate_workers.specs.Threads.{comes_within}
use Rattle.candidate_workers.proofs.threads.events_within.Given as goal

abbrev pub invariant-loop-interrupt : goal.invariant-loop-interrupt
invariant-loop-interrupt l = record {
  total : l.events ≡ l.initial.events + sum_by (comes_within l.time)
      (take l.interrupt-index l.interrupt-items);
  short : l.events ≤ 30000 + l.interrupt-index * 200000;
}
