-- A handover suffices, whether the job that starts stands below the other task or above it.
use Rattle.std.proofs.Common.{ℕ, ◌+◌, ◌<◌, ◌≤◌, ◌≡◌, ◌≢◌, inl, inr, sym, ap, ◌∙◌, subst, arith}
use Rattle.std.proofs.Common.{List, true, false, nat_lt, length}
use Rattle.std.proofs.lemmas.Bool.{cases_eq, cases_lt, lt-ltb, le-ltb}
use Rattle.ceiling_kernel.proofs.Common.{Node, Job, job_at, level_of_job, executed_before}
use Rattle.ceiling_kernel.proofs.Common.{AreLegalJobs, IsNode}
use Rattle.ceiling_kernel.proofs.NodeLaws.{sound}
use Rattle.chains.specs.Starts.{IsStartAt}
use Rattle.chains.specs.Handovers.{HandoversHold, RespondsBy, handover}
use Rattle.chains.proofs.BelowLaws.{below_holds, start_ready}
use Rattle.chains.proofs.AboveLaws.{above_holds}

pub handover_law : (node : Node) (jobs : List Job) → IsNode node → AreLegalJobs node jobs
    → HandoversHold node jobs
handover_law node jobs valid legal j k r s lt differ responds start after =
    elim (cases_lt (level_of_job node jobs k) (level_of_job node jobs j)) [
      | inl low ↦
          let is : nat_lt (level_of_job node jobs k) (level_of_job node jobs j) ≡ true =
          lt-ltb (level_of_job node jobs k) (level_of_job node jobs j) low in
          below_holds node jobs legal j k s lt low start (rw is at after)
      | inr ge ↦ elim (cases_eq (level_of_job node jobs j) (level_of_job node jobs k)) [
        | inl same ↦ absurd (differ ((sound node valid).levels_differ (job_at jobs j).task
            (job_at jobs k).task (legal.known j lt)
            (legal.known k (start_ready node jobs s k start).0) same))
        | inr other ↦
            let not : nat_lt (level_of_job node jobs k) (level_of_job node jobs j) ≡ false =
            le-ltb (level_of_job node jobs k) (level_of_job node jobs j) ge in
            above_holds node jobs valid legal j k r s lt (responds (omega arith)) (omega arith) start
            (rw not at after)
      ]
    ]

-- the same of the tasks by their names
pub handover_at : (node : Node) (jobs : List Job) → IsNode node → AreLegalJobs node jobs
    → (i c j k r s : ℕ) → j < length jobs → (job_at jobs j).task ≡ i → (job_at jobs k).task ≡ c
    → i ≢ c → RespondsBy node i r → IsStartAt node jobs k s
    → (job_at jobs j).arrival + handover node i c r ≤ (job_at jobs k).arrival
    → (job_at jobs j).executes ≤ executed_before node jobs s j
handover_at node jobs valid legal i c j k r s lt own other differ responds start after =
    let responds' : RespondsBy node (job_at jobs j).task r =
    subst (λ x. RespondsBy node x r) {y = (job_at jobs j).task} (sym own) responds in
    let same : handover node (job_at jobs j).task (job_at jobs k).task r ≡ handover node i c r =
    ap (λ x. handover node x (job_at jobs k).task r) own ∙ ap (λ x. handover node i x r) other in
    handover_law node jobs valid legal j k r s lt (λ e. differ (sym own ∙ (e ∙ other)))
    (λ low. responds') start (omega (arith, same))
