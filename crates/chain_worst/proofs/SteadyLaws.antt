-- Jobs of a chain's tasks come exactly a period apart, up to the end, on the clock of their aims.
use Rattle.std.proofs.Common.{◌≡◌, ℕ, suc, ◌%◌, ◌<◌, List, length, Some, refl, sym, ◌∙◌, ap, subst, arith}
use Rattle.task_sheet.proofs.Common.{Task, task_at, IsTaskSet}
use Rattle.ceiling_kernel.specs.declared.trace.Release.{Release}
use Rattle.ceiling_kernel.specs.Tick.{Job, job_at, node_in}
use Rattle.ceiling_kernel.proofs.Common.{task_number, jobs_of, release_at, no_release}
use Rattle.ceiling_kernel.proofs.ReleaseLaws.{job_is, jobs_length}
use Rattle.release_list.proofs.InLaws.{in_at, place_of}
use Rattle.chains.specs.Clocks.{KeepsClock}
use Rattle.chains.specs.Gaps.{AreSteady, Follows}
use Rattle.chain_worst.specs.Arrivals.{arrival_at, own_aim}
use Rattle.chain_worst.specs.Arrivals as arrivals
use Rattle.chain_worst.specs.Built.{built_of}
use Rattle.chain_worst.specs.declared.aims.Aim.{Aim}
use Rattle.chain_worst.proofs.ArrivalLaws.{at_phase, exactly}
use Rattle.chain_worst.proofs.JobLaws.{IsBuiltJob}
use Rattle.chain_worst.proofs.ListLaws.{from_list, number_is, to_list, valid}

module _ (U : List Task) (taken : List ℕ) (until : ℕ) (aims : List Aim) (i : ℕ) (m : Aim) (set : IsTaskSet U)
    (in_set : i < length U) (own : own_aim i aims ≡ Some m) where
  abbrev rs : List Release
  rs = built_of U until aims

  abbrev jobs : List Job
  jobs = jobs_of U rs

  abbrev t : Task
  t = task_at U i

  -- the release of job k of the task
  abbrev job : ℕ → Release
  job k = arrivals.release_at t until aims (arrival_at t i until aims k)

  -- it is in the list
  placed : (k : ℕ) → (job k).time < until → (n : ℕ) × (n < length rs) × (release_at rs n ≡ job k)
  placed k before = place_of no_release (to_list U until aims set i k in_set before)

  follows : (j k n : ℕ) → (job_at jobs j).arrival ≡ arrival_at t i until aims k → n < length rs
      → release_at rs n ≡ job (suc k) → IsBuiltJob U until aims (job (suc k)) i (suc k)
      → Follows (node_in U taken) jobs i j n
  follows j k n arrives lt is built =
      let at = job_is U rs n lt in
      let number : task_number U (release_at rs n) ≡ i = ap (task_number U) is ∙ number_is U until aims set built in
      let time : (release_at rs n).time ≡ arrival_at t i until aims (suc k) = ap (λ r. r.time) is in
      let arrival : (job_at jobs n).arrival ≡ arrival_at t i until aims (suc k) = ap (λ x. x.arrival) at ∙ time in
      let next = exactly t i until aims m own k in
      record {
        is_job = omega (arith, lt, jobs_length U rs);
        own = ap (λ x. x.task) at ∙ number;
        later = omega (arith, arrives, arrival, next, (valid U until aims set i in_set).period_from);
        in_time = omega (arith, arrives, arrival, next);
      }

  -- which of the task's jobs a job is
  which : (j : ℕ) → j < length jobs → (job_at jobs j).task ≡ i
      → (k : ℕ) × ((job_at jobs j).arrival ≡ arrival_at t i until aims k)
  which j lt mine =
      let less : j < length rs = omega (arith, lt, jobs_length U rs) in
      let at = job_is U rs j less in
      let b = from_list U until aims set (in_at rs j no_release less) in
      let same : b.0 ≡ i = sym (number_is U until aims set b.2) ∙ (sym (ap (λ x. x.task) at) ∙ mine) in
      let built = subst (λ h. IsBuiltJob U until aims (release_at rs j) h b.1) same b.2 in
      (b.1, ap (λ x. x.arrival) at ∙ ap (λ r. r.time) built.is)

  pub steady : AreSteady (node_in U taken) jobs until i
  steady j lt mine soon =
      let w : (k : ℕ) × ((job_at jobs j).arrival ≡ arrival_at t i until aims k) = which j lt mine in
      let k : ℕ = w.0 in
      let next = exactly t i until aims m own k in
      let before : arrival_at t i until aims (suc k) < until = omega (arith, w.1, next, soon) in
      let p = placed (suc k) before in
      (p.0, follows j k p.0 w.1 p.1 p.2 (record { in_set = in_set; is = refl; before = before }))

  pub on_clock : KeepsClock (node_in U taken) jobs 0 (m.arrival % t.period) i
  on_clock j lt mine =
      let w : (k : ℕ) × ((job_at jobs j).arrival ≡ arrival_at t i until aims k) = which j lt mine in
      (w.0, omega (arith, w.1, at_phase t i until aims m own w.0))
