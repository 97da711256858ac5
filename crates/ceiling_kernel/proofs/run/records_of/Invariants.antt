use Rattle.std.proofs.Common.{◌≡◌, ℕ, take}
use Rattle.ceiling_kernel.proofs.Common.{Node, jobs_of, records_from, AreFinishes}
use Rattle.ceiling_kernel.proofs.run.records_of.Given as goal

abbrev pub invariant-loop-k : goal.invariant-loop-k
invariant-loop-k l = (node : Node) (t : ℕ) → AreFinishes node l.releases t l.finishes
    → l.records.items ≡ records_from node (jobs_of node.tasks l.releases) t 0 (take l.k l.releases)
