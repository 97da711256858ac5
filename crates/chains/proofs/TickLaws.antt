-- What a tick does to a job.
use Rattle.std.proofs.Common.{ℕ, zero, suc, ◌<◌, ◌≡◌, ◌⊎◌, inl, inr, refl, arith, List, Some, None}
use Rattle.std.proofs.lemmas.Bool.{cases_eq}
use Rattle.ceiling_kernel.proofs.Common.{Node, Job, job_at, executed_before, picked}
use Rattle.ceiling_kernel.proofs.MachineLaws.{IsPick, picked_is, pending_parts, start_of, idle_of}
use Rattle.ceiling_kernel.proofs.MachineLaws.{own_of, other_of}

module _ (node : Node) (jobs : List Job) where
  -- a tick leaves a job as it is, or was the job's own
  pub tick_cases : (t j : ℕ) → (executed_before node jobs (suc t) j
      ≡ executed_before node jobs t j) ⊎ ((picked node jobs t ≡ Some j)
      × (executed_before node jobs (suc t) j ≡ suc (executed_before node jobs t j)))
  tick_cases t j =
      elim (picked node jobs t) as (λ r. picked node jobs t ≡ r → (executed_before node jobs (suc t) j
      ≡ executed_before node jobs t j) ⊎ ((picked node jobs t ≡ Some j)
      × (executed_before node jobs (suc t) j ≡ suc (executed_before node jobs t j)))) [
        | None ↦ λ e. inl (idle_of node jobs t j e)
        | Some p ↦ λ e. elim (cases_eq j p) [
          | inl same ↦
              let mine : picked node jobs t ≡ Some j = cc in
              inr (mine, own_of node jobs t j mine)
          | inr ne ↦ inl (other_of node jobs t p j e ne)
        ]
      ] refl

  -- a job that has executed was ready before
  pub began : (t j : ℕ) → 0 < executed_before node jobs t j → (job_at jobs j).ready < t
  began zero j h = let none : executed_before node jobs 0 j ≡ 0 = start_of node jobs j in absurd (omega arith)
  began (suc t) j h =
      elim (tick_cases t j) [
        | inl e ↦ let before : (job_at jobs j).ready < t = began t j (omega arith) in omega arith
        | inr m ↦
            let is : IsPick node jobs t j = picked_is node jobs t j m.0 in
            let was = pending_parts node jobs t j is.is_pending in
            omega (arith, was.0)
      ]
