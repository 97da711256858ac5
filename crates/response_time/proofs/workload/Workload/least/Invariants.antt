use Rattle.std.proofs.Common.{ℕ, ◌+◌, ◌*◌, ◌≤◌, take, sum_by}
use Rattle.response_time.specs.Workload.{share_within}
use Rattle.response_time.proofs.workload.Workload.least.Given as goal

abbrev pub invariant-loop-share : goal.invariant-loop-share
invariant-loop-share l = record {
  once : l.once ≤ 980000000 + l.share-index * 10000000;
  parts : l.parts ≤ l.share-index * 4294967296;
  least : (time : ℕ) → 1 ≤ time
      → time * l.parts + 4294967296 * l.once ≤ 4294967296 * (l.self.always + sum_by
      (share_within time) (take l.share-index l.share-items));
}
