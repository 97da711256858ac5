-- A job of a higher task that starts while a lower one is unfinished keeps it from executing as long as its task's cost at
-- the most; the bound of the lower one counts that.
use Rattle.std.proofs.Common.{ℕ, zero, suc, ◌+◌, ◌-◌, ◌<◌, ◌≤◌, ◌≡◌, ◌≢◌, inl, inr, sym, ap, ◌∙◌}
use Rattle.std.proofs.Common.{subst, arith, List, length, max, Some, add-zero, add-suc}
use Rattle.std.proofs.lemmas.Bool.{cases_lt}
use Rattle.task_sheet.proofs.Common.{task_at}
use Rattle.ceiling_kernel.proofs.Common.{Node, Job, job_at, job_task, executed_before, picked}
use Rattle.ceiling_kernel.proofs.Common.{active_of, held_ceiling, level_in_order, level_of_job}
use Rattle.ceiling_kernel.proofs.Common.{AreLegalJobs, IsNode, PassesBy, response_by}
use Rattle.ceiling_kernel.proofs.MachineLaws.{IsPick, picked_is, pending_from}
use Rattle.ceiling_kernel.proofs.FinishLaws.{done_grows}
use Rattle.ceiling_kernel.proofs.BoundLaws.{bound_law}
use Rattle.chains.specs.Starts.{IsStartAt}
use Rattle.chains.specs.Handovers.{RespondsBy}
use Rattle.chains.proofs.TickLaws.{tick_cases, began}
use Rattle.chains.proofs.BelowLaws.{own_level, beaten, start_ready}
use Rattle.chains.proofs.CalmLaws.{calm, calm_job, calm_length, calm_own, calm_other}
use Rattle.chains.proofs.CalmLaws.{calm_legal, same_until}

-- a job of lower level than one that starts has a lower active priority, ready or not
outranked : (node : Node) (jobs : List Job) (s j k : ℕ) → IsStartAt node jobs k s
    → j < length jobs → executed_before node jobs s j < (job_at jobs j).executes
    → level_of_job node jobs j < level_of_job node jobs k
    → active_of node jobs (executed_before node jobs s) j < level_of_job node jobs k
outranked node jobs s j k start lt open_ low =
    elim (cases_lt s (job_at jobs j).ready) [
      | inr ready ↦ beaten node jobs s j k start lt ready open_ (λ e. omega arith)
      | inl not ↦
          let none : executed_before node jobs s j ≡ 0 =
          elim (cases_lt 0 (executed_before node jobs s j)) [
            | inl some ↦ absurd (omega (arith, began node jobs s j some))
            | inr zero_ ↦ omega arith
          ] in
          omega (arith, own_level node jobs s j none)
    ]

module _ (node : Node) (jobs : List Job) (k : ℕ) (lt : k < length jobs) (s j : ℕ)
    (some : 0 < (job_at jobs k).executes)
    (most : (job_at jobs k).executes ≤ (job_task node jobs k).cost)
    (start : IsStartAt node jobs k s) (differ : j ≢ k)
    (low : active_of node jobs (executed_before node jobs s) j < level_of_job node jobs k) where
  abbrev runs : ℕ → ℕ → ℕ
  runs = executed_before node (calm node jobs k lt)

  same_at : (i : ℕ) → runs s i ≡ executed_before node jobs s i
  same_at = same_until node jobs k lt s some most start.first s (omega arith)

  -- as long as job k isn't done, job j is not picked
  not_picked : (t : ℕ) → (job_at jobs k).ready ≤ t → runs t k < (job_task node jobs k).cost
      → runs t j ≡ executed_before node jobs s j → picked node (calm node jobs k lt) t ≢ Some j
  not_picked t ready open_ still mine =
      let is : IsPick node (calm node jobs k lt) t j = picked_is node (calm node jobs k lt) t j mine in
      let own : job_at (calm node jobs k lt) k ≡ calm_job node jobs k lt = calm_own node jobs k lt in
      let costs : (job_at (calm node jobs k lt) k).executes ≡ (job_task node jobs k).cost =
      ap (λ x. x.executes) own in
      let readies : (job_at (calm node jobs k lt) k).ready ≡ (job_at jobs k).ready =
      ap (λ x. x.ready) own in
      let levels : level_of_job node (calm node jobs k lt) k ≡ level_of_job node jobs k =
      ap (λ x. level_in_order node x.task) own in
      let actives : active_of node (calm node jobs k lt) (runs t) j
      ≡ active_of node jobs (executed_before node jobs s) j =
      ap (λ x. max (level_in_order node x.task) (held_ceiling node x.sections (runs t j)))
      (calm_other node jobs k lt j differ)
      ∙ ap (λ e. max (level_in_order node (job_at jobs j).task)
      (held_ceiling node (job_at jobs j).sections e)) still in
      elim (is.first k (omega (arith, calm_length node jobs k lt))
      (pending_from node (calm node jobs k lt) t k (omega arith) (omega arith))) [
        | inl less ↦ omega arith
        | inr tied ↦ omega (arith, tied.0)
      ]

  -- for so long job j executes nothing
  held_off : (ready : (job_at jobs k).ready ≤ s) (n : ℕ) → n ≤ (job_task node jobs k).cost
      → (runs (s + n) j ≡ executed_before node jobs s j) × (runs (s + n) k ≤ n)
  held_off ready zero le =
      rw add-zero (same_at j, omega (arith, same_at k, start.first))
  held_off ready (suc n) le =
      let ih : (runs (s + n) j ≡ executed_before node jobs s j) × (runs (s + n) k ≤ n) =
      held_off ready n (omega arith) in
      let still : runs (suc (s + n)) j ≡ executed_before node jobs s j =
      elim (tick_cases node (calm node jobs k lt) (s + n) j) [
        | inl e ↦ e ∙ ih.0
        | inr m ↦ absurd (not_picked (s + n) (omega arith) (omega (arith, ih.1)) ih.0 m.0)
      ] in
      let few : runs (suc (s + n)) k ≤ suc n =
      elim (tick_cases node (calm node jobs k lt) (s + n) k) [
        | inl e ↦ omega (arith, ih.1)
        | inr m ↦ omega (arith, ih.1)
      ] in
      rw add-suc (still, few)

-- where the job that starts stands above the other task, that one's job is finished
pub above_holds : (node : Node) (jobs : List Job) → IsNode node → AreLegalJobs node jobs
    → (j k r s : ℕ) → j < length jobs → RespondsBy node (job_at jobs j).task r
    → level_of_job node jobs j < level_of_job node jobs k → IsStartAt node jobs k s
    → (job_at jobs j).arrival + (r - (job_task node jobs k).cost) ≤ (job_at jobs k).arrival
    → (job_at jobs j).executes ≤ executed_before node jobs s j
above_holds node jobs valid legal j k r s lt responds low start after =
    elim (cases_lt (executed_before node jobs s j) (job_at jobs j).executes) [
      | inr done ↦ done
      | inl open_ ↦
          let b : (k < length jobs) × ((job_at jobs k).ready ≤ s) × (0 < (job_at jobs k).executes) =
          start_ready node jobs s k start in
          let most : (job_at jobs k).executes ≤ (job_task node jobs k).cost =
          (legal.within k b.0).executes in
          let early = legal.not_early k b.0 in
          let differ : j ≢ k = λ e. omega (arith, ap (level_of_job node jobs) e) in
          let behind = outranked node jobs s j k start lt open_ low in
          let cost : ℕ = (job_task node jobs k).cost in
          let off = held_off node jobs k b.0 s j b.2 most start differ behind b.1
          (job_task node jobs k).cost (omega arith) in
          let same : job_at (calm node jobs k b.0) j ≡ job_at jobs j =
          calm_other node jobs k b.0 j differ in
          let passes : PassesBy node (job_at (calm node jobs k b.0) j).task responds.time =
          subst (λ x. PassesBy node x.task responds.time) (sym same) responds.passes in
          let fin = bound_law node (calm node jobs k b.0) valid (calm_legal node jobs k b.0 legal) j
          responds.time (omega (arith, calm_length node jobs k b.0)) passes in
          let fin' : (job_at jobs j).executes ≤ executed_before node (calm node jobs k b.0)
          ((job_at jobs j).arrival + response_by (job_task node jobs j) responds.time) j =
          subst (λ x. x.executes ≤ executed_before node (calm node jobs k b.0)
          (x.arrival + response_by (task_at node.tasks x.task) responds.time) j) same fin in
          let is_r = responds.response in
          let later = done_grows node (calm node jobs k b.0) j
          ((job_at jobs j).arrival + response_by (job_task node jobs j) responds.time)
          (s + (job_task node jobs k).cost) (omega arith) in
          absurd (omega (arith, off.0))
    ]
