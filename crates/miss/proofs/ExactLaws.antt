-- In the worst case a job finishes exactly at the least time that covers its work.
use Rattle.std.proofs.Common.{◌≡◌, ℕ, ◌+◌, ◌-◌, ◌<◌, List, subst, arith}
use Rattle.task_sheet.specs.Demand.{blocking_of}
use Rattle.ceiling_kernel.proofs.Common.{Node, Job, job_at, executed_before, IsNode, AreLegalJobs}
use Rattle.ceiling_kernel.proofs.Common.{above_of}
use Rattle.ceiling_kernel.proofs.BoundLaws.{tighter_law}
use Rattle.miss.specs.Exact.{WorstIsExact}
use Rattle.miss.proofs.WorstLaws.{comes_law}

pub exact_law : (node : Node) (jobs : List Job) → IsNode node → AreLegalJobs node jobs
    → WorstIsExact node jobs
exact_law node jobs ok legal j r worst ends covers least =
    let i : ℕ = (job_at jobs j).task in
    let before = comes_law node jobs ok legal j (blocking_of node.tasks i (above_of node i) - 1) (r
    - 1) worst
    ends (omega (arith, covers.in_time))
    (λ u some le. least u some (omega (arith, le, covers.from_one))) in
    let after = tighter_law node jobs ok legal j r worst.is_job covers in
    let at : (job_at jobs j).ready + (r - 1) ≡ (job_at jobs j).ready + r - 1 =
    omega (arith, covers.from_one) in
    record {
      some = omega (arith, covers.from_one);
      before = subst (λ t. executed_before node jobs t j < (job_at jobs j).executes) at before;
      after = after;
    }
