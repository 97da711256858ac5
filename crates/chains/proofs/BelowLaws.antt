-- A job that starts has nothing done and holds nothing: so it is picked at its own level.
use Rattle.std.proofs.Common.{ℕ, ◌+◌, ◌<◌, ◌≤◌, ◌≡◌, inl, inr, ap, arith, List, [], ◌∷◌}
use Rattle.std.proofs.Common.{length, refl, false, ◌≢◌, ◌∙◌}
use Rattle.std.proofs.lemmas.Bool.{cases_lt}
use Rattle.task_sheet.proofs.Common.{CriticalSection}
use Rattle.ceiling_kernel.proofs.Common.{Node, Job, job_at, job_task, executed_before}
use Rattle.ceiling_kernel.proofs.Common.{is_inside, held_ceiling, active_of, level_of_job}
use Rattle.ceiling_kernel.proofs.Common.{AreLegalJobs, lateness_of}
use Rattle.ceiling_kernel.proofs.SectionLaws.{outside_before}
use Rattle.ceiling_kernel.proofs.MachineLaws.{IsPick, picked_is, pending_parts, pending_from}
use Rattle.chains.specs.Starts.{IsStartAt}

-- who has executed nothing is inside no section
pub nothing_held : (node : Node) (ss : List CriticalSection) → held_ceiling node ss 0 ≡ 0
nothing_held node [] = refl
nothing_held node (s ∷ ss) =
    let out : is_inside s 0 ≡ false = outside_before s 0 (omega arith) in
    let ih = nothing_held node ss in
    rw out (omega arith)

-- so its active priority is its own level
pub own_level : (node : Node) (jobs : List Job) (t k : ℕ) → executed_before node jobs t k ≡ 0
    → active_of node jobs (executed_before node jobs t) k ≡ level_of_job node jobs k
own_level node jobs t k none =
    let held : held_ceiling node (job_at jobs k).sections (executed_before node jobs t k) ≡ 0 =
    ap (held_ceiling node (job_at jobs k).sections) none ∙ nothing_held node (job_at jobs k).sections
    in omega arith

-- a pending job of another level has a lower active priority than one that starts, so its own level is lower
pub beaten : (node : Node) (jobs : List Job) (s j k : ℕ) → IsStartAt node jobs k s
    → j < length jobs → (job_at jobs j).ready ≤ s
    → executed_before node jobs s j < (job_at jobs j).executes
    → level_of_job node jobs j ≢ level_of_job node jobs k
    → active_of node jobs (executed_before node jobs s) j < level_of_job node jobs k
beaten node jobs s j k start lt ready open_ differ =
    let is : IsPick node jobs s k = picked_is node jobs s k start.runs in
    let own = own_level node jobs s k start.first in
    elim (is.first j lt (pending_from node jobs s j ready open_)) [
      | inl less ↦ omega arith
      | inr tied ↦ omega arith
    ]

-- a job that starts is ready
pub start_ready : (node : Node) (jobs : List Job) (s k : ℕ) → IsStartAt node jobs k s
    → (k < length jobs) × ((job_at jobs k).ready ≤ s) × (0 < (job_at jobs k).executes)
start_ready node jobs s k start =
    let is : IsPick node jobs s k = picked_is node jobs s k start.runs in
    let p = pending_parts node jobs s k is.is_pending in
    (is.below, p.0, omega (arith, p.1, start.first))

-- where the job that starts stands below the other task, that one's job is finished
pub below_holds : (node : Node) (jobs : List Job) → AreLegalJobs node jobs → (j k s : ℕ)
    → j < length jobs → level_of_job node jobs k < level_of_job node jobs j
    → IsStartAt node jobs k s
    → (job_at jobs j).arrival + lateness_of (job_task node jobs j) ≤ (job_at jobs k).arrival
    → (job_at jobs j).executes ≤ executed_before node jobs s j
below_holds node jobs legal j k s lt low start after =
    elim (cases_lt (executed_before node jobs s j) (job_at jobs j).executes) [
      | inr done ↦ done
      | inl open_ ↦
          let b = start_ready node jobs s k start in
          let late = legal.not_late j lt in
          let early = legal.not_early k b.0 in
          let beat = beaten node jobs s j k start lt (omega arith) open_ (λ e. omega arith) in
          absurd (omega arith)
    ]
