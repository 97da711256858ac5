use Rattle.std.proofs.Common.{◌≡◌, ◌≤◌, ◌*◌, ◌++◌, take, drop, map, sum_by}
use Rattle.response_time.specs.Workload.{further_work, counted_to}
use Rattle.response_time.proofs.workload.count_all.Given as goal

abbrev pub invariant-loop-share : goal.invariant-loop-share
invariant-loop-share l = record {
  counted : l.shares ≡ map (counted_to l.time) (take l.share-index l.fn.shares)
      ++ drop l.share-index l.fn.shares;
  work : l.work ≡ sum_by (further_work l.time) (take l.share-index l.fn.shares);
  fits : l.work ≤ l.share-index * 30000000;
}
