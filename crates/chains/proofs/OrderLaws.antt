-- A job of a task that passes is finished when the next of its task is ready: so they go in the order in which they arrive.
use Rattle.std.proofs.Common.{ℕ, ◌+◌, ◌-◌, ◌<◌, ◌≤◌, ◌≡◌, inl, inr, refl, sym, ap, ◌∙◌, subst, arith, List, length}
use Rattle.std.proofs.lemmas.Bool.{cases_lt}
use Rattle.task_sheet.proofs.Common.{task_at, limit_of}
use Rattle.ceiling_kernel.specs.Readings.{IsFinishAt}
use Rattle.ceiling_kernel.proofs.Common.{Node, Job, job_at, job_task, executed_before}
use Rattle.ceiling_kernel.proofs.Common.{AreLegalJobs, IsNode, PassesBy, response_by, lateness_of}
use Rattle.ceiling_kernel.proofs.NodeLaws.{IsSoundTask, sound}
use Rattle.ceiling_kernel.proofs.MachineLaws.{IsPick, picked_is, pending_parts}
use Rattle.ceiling_kernel.proofs.FinishLaws.{done_grows, finish_some, finish_is}
use Rattle.ceiling_kernel.proofs.BoundLaws.{bound_law}
use Rattle.chains.specs.Handovers.{RespondsBy}
use Rattle.chains.specs.Orders.{GoesBefore, SamplesKeepOrder}
use Rattle.chains.proofs.TickLaws.{began}
use Rattle.chains.proofs.BelowLaws.{start_ready}

-- a job that has executed all by t finishes by t
pub finishes_by : (node : Node) (jobs : List Job) (t j : ℕ) → 0 < (job_at jobs j).executes
    → (job_at jobs j).executes ≤ executed_before node jobs t j
    → (f : ℕ) × (f ≤ t) × IsFinishAt node jobs j f
finishes_by node jobs t j some done =
    let f = finish_some node jobs j t some done in
    let is = finish_is node jobs j t f.0 some f.1 in
    (f.0, is.0, is.1)

-- and not after
pub finish_by : (node : Node) (jobs : List Job) (t j f : ℕ) → IsFinishAt node jobs j f
    → (job_at jobs j).executes ≤ executed_before node jobs t j → f ≤ t
finish_by node jobs t j f is done =
    elim (cases_lt t f) [
      | inr ge ↦ ge
      | inl early ↦
          let before = is.before in
          let some = is.some in
          absurd (omega (arith, done_grows node jobs j t (f - 1) (omega arith)))
    ]

module _ (node : Node) (jobs : List Job) (valid : IsNode node) (legal : AreLegalJobs node jobs) where
  -- a job of a task that passes has executed all a response after its arrival
  pub done_by : (j i r : ℕ) → j < length jobs → (job_at jobs j).task ≡ i → RespondsBy node i r
      → (t : ℕ) → (job_at jobs j).arrival + r ≤ t
      → (job_at jobs j).executes ≤ executed_before node jobs t j
  done_by j i r lt mine responds t le =
      let fin = bound_law node jobs valid legal j responds.time lt
      (subst (λ x. PassesBy node x responds.time) (sym mine) responds.passes) in
      let is_r = responds.response in
      let same = ap (λ x. response_by (task_at node.tasks x) responds.time) mine in
      omega (
        arith,
        done_grows node jobs j
            ((job_at jobs j).arrival + response_by (job_task node jobs j) responds.time) t
            (omega arith),
      )

  -- so when the next job of its task is ready
  pub done_before : (j k i r : ℕ) → j < k → k < length jobs → (job_at jobs j).task ≡ i
      → (job_at jobs k).task ≡ i → RespondsBy node i r
      → (job_at jobs j).executes ≤ executed_before node jobs (job_at jobs k).ready j
  done_before j k i r jk lt mine own responds =
      let below : j < length jobs = omega arith in
      let v : IsSoundTask node (job_at jobs k).task = (sound node valid).each (job_at jobs k).task
      (legal.known k lt) in
      let within = v.deadline_within in
      let room = v.late_within in
      let in_time = responds.passes.in_time in
      let is_r = responds.response in
      let gap = legal.spaced j k jk lt (mine ∙ sym own) in
      let early = legal.not_early k lt in
      let limits = ap (λ x. limit_of (task_at node.tasks x)) own in
      let lates = ap (λ x. lateness_of (task_at node.tasks x)) own in
      done_by j i r below mine responds (job_at jobs k).ready (omega arith)

  pub goes_before : (j k i r : ℕ) → j < k → k < length jobs → (job_at jobs j).task ≡ i
      → (job_at jobs k).task ≡ i → RespondsBy node i r → GoesBefore node jobs j k
  goes_before j k i r jk lt mine own responds =
      let done = done_before j k i r jk lt mine own responds in
      record {
        starts = λ s t first second.
            let b = start_ready node jobs t k second in
            let is : IsPick node jobs s j = picked_is node jobs s j first.runs in
            let p = pending_parts node jobs s j is.is_pending in
            elim (cases_lt s t) [
              | inl less ↦ less
              | inr ge ↦ absurd (omega (
                arith,
                p.1,
                b.1,
                done_grows node jobs j (job_at jobs k).ready s (omega (arith, b.1)),
              ))
            ];
        finishes = λ f g first second.
            let by = finish_by node jobs (job_at jobs k).ready j f first done in
            let before = second.before in
            let after = second.after in
            omega (arith, began node jobs g k (omega arith));
        apart = λ f t first second.
            let b = start_ready node jobs t k second in
            omega (arith, b.1, finish_by node jobs (job_at jobs k).ready j f first done);
      }

pub order_law : (node : Node) (jobs : List Job) → IsNode node → AreLegalJobs node jobs
    → SamplesKeepOrder node jobs
order_law node jobs valid legal j k r jk lt same responds =
    goes_before node jobs valid legal j k (job_at jobs j).task r jk lt refl (sym same) responds
