-- Without locks, timers and interrupts a task that doesn't pass must miss its deadline, or one
-- above it must.
use Rattle.std.proofs.Common.{◌≡◌, ℕ, zero, suc, ◌+◌, ◌-◌, ◌<◌, inl, inr, List, [], ◌∷◌}
use Rattle.std.proofs.Common.{length, sym, ◌∙◌, ap, subst, arith, max}
use Rattle.std.specs.Prelude.{Contains}
use Rattle.std.proofs.lemmas.Bool.{cases_lt, ltb-true}
use Rattle.task_sheet.proofs.Common.{CriticalSection, no_task, task_at, blocking_of}
use Rattle.task_sheet.proofs.Common.{demand_of, limit_of, Passes}
use Rattle.task_sheet.specs.Demand.{Blocks, IsUninterrupted}
use Rattle.task_sheet.proofs.BlockingLaws.{blocking-some}
use Rattle.task_sheet.proofs.InterruptLaws.{demand-plain}
use Rattle.task_sheet.proofs.ResponseLaws.{decide_covers}
use Rattle.ceiling_kernel.proofs.Common.{Node, Job, job_at, job_task, level_in_order, held_ceiling}
use Rattle.ceiling_kernel.proofs.Common.{IsNode, AreLegalJobs, lateness_of}
use Rattle.ceiling_kernel.proofs.Common.{above_of, PassesBy, response_by, work_of, jobs_of}
use Rattle.ceiling_kernel.proofs.PriorityLaws.{level_within}
use Rattle.ceiling_kernel.proofs.FinishLaws.{done_grows}
use Rattle.miss.specs.Exact.{EndsLow}
use Rattle.miss.specs.Misses.{MustMiss, IsLockFree, NoIsShown, MissesAreRefused}
use Rattle.ceiling_kernel.proofs.ReleaseLaws.{job_is, jobs_length}
use Rattle.ceiling_kernel.proofs.EndLaws.{legal_from}
use Rattle.ceiling_kernel.proofs.BoundLaws.{bound_law}

module _ (node : Node) (ok : IsNode node) (free : IsLockFree node.tasks) (plain : IsUninterrupted
    node.tasks) (none : (i : ℕ) → i < length node.tasks → MustMiss node i → ⊥) where
  none_in : (xs : List CriticalSection) (s : CriticalSection) → xs ≡ [] → Contains xs s → ⊥
  none_in [] s e h = omega (arith, h.1)
  none_in (x ∷ xs) s e h = (let l = ap length e in omega arith)

  none_blocks : (i : ℕ) → blocking_of node.tasks i (above_of node i) ≡ 0
  none_blocks i =
      elim (blocking-some node.tasks i (above_of node i)) [
        | inl z ↦ z
        | inr some ↦
            let b : Blocks node.tasks i (above_of node i) some.0 = some.1 in
            absurd (none_in (task_at node.tasks b.task).sections some.0 (free b.task b.in_set)
            b.section)
      ]

  ends : (i : ℕ) → i < length node.tasks → EndsLow node i
  ends i lt =
      let at_none : max (level_in_order node i)
      (held_ceiling node [] ((task_at node.tasks i).cost - 1)) ≡ level_in_order node i =
      omega arith in
      subst (λ (xs : List CriticalSection). max (level_in_order node i) (held_ceiling node xs
      ((task_at node.tasks i).cost - 1)) ≡ level_in_order node i) (sym (free i lt)) at_none

  pass_from : (fuel i : ℕ) → i < length node.tasks
      → length node.tasks < level_in_order node i + fuel → Passes node.tasks i (above_of node i)
  pass_from zero i lt far = absurd (omega (arith, far, level_within node ok i))
  pass_from (suc fuel) i lt far =
      elim (decide_covers (demand_of node.tasks i (above_of node i))
      (limit_of (task_at node.tasks i))) [
        | inl passes ↦ passes
        | inr not ↦ absurd (none i lt (record {
          none_covers = λ u some le. elim (cases_lt u
              (work_of node i (blocking_of node.tasks i (above_of node i) - 1) u)) [
                | inl more ↦ more
                | inr covered ↦
                    let z = none_blocks i in
                    let d = demand-plain node.tasks i (above_of node i) u plain in
                    absurd (not (u, omega (arith, some), le, omega (arith, covered, z, d)))
              ];
          ends_low = ends i lt;
          above_pass = λ h small on. pass_from fuel h small
              (let up = ltb-true (level_in_order node i) (level_in_order node h) on in omega arith);
        }))
      ]

pub no_law : (node : Node) → IsNode node → NoIsShown node
no_law node ok free plain none i lt =
    pass_from node ok free plain none (suc (length node.tasks)) i lt (omega arith)

pub refused_law : (node : Node) → IsNode node → MissesAreRefused node
refused_law node ok rs until i has passes =
    let j : ℕ = has.0 in
    let m = has.1 in
    let jobs : List Job = jobs_of node.tasks rs in
    let legal : AreLegalJobs node (jobs_of node.tasks rs) =
    legal_from node rs until ok m.accepted in
    let job = job_is node.tasks rs j m.is_job in
    let task = ap (λ (x : Job). x.task) job
    ∙ m.of_task in
    let arrives = ap (λ (x : Job). x.arrival) job in
    let by : PassesBy node i passes.0 =
    record { from_one = omega (arith, passes.1); in_time = passes.2; enough = passes.3 } in
    let by' : PassesBy node (job_at (jobs_of node.tasks rs) j).task passes.0 =
    subst (λ x. PassesBy node x passes.0) (sym task) by in
    let long = jobs_length node.tasks rs in
    let fin = bound_law node
    (jobs_of node.tasks rs) ok legal j passes.0 (omega (arith, m.is_job, long)) by' in
    let late = ap (λ x. lateness_of (task_at node.tasks x)) task in
    let set = ok.tasks in
    let known = subst (λ x. x < length node.tasks) task (legal.known j (omega (
      arith,
      m.is_job,
      long,
    ))) in
    let v = set.valid i no_task known in
    let end : ℕ = (job_at (jobs_of node.tasks rs) j).arrival + response_by
    (job_task node (jobs_of node.tasks rs) j) passes.0 in
    omega (
      arith,
      fin,
      done_grows node (jobs_of node.tasks rs) j end until
          (omega (arith, passes.2, late, arrives, m.due, v.jitter)),
      m.late,
    )
