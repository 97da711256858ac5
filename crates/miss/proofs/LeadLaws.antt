-- A job that is ready before all others executes alone.
use Rattle.std.proofs.Common.{◌≡◌, ◌≢◌, ℕ, zero, suc, ◌+◌, ◌<◌, ◌≤◌, inl, inr, List, length, Some}
use Rattle.std.proofs.Common.{subst, arith}
use Rattle.std.proofs.lemmas.Bool.{cases_eq}
use Rattle.ceiling_kernel.specs.Tick.{Node, Job, job_at, executed_before, picked}
use Rattle.ceiling_kernel.proofs.LockLaws.{began_strictly}
use Rattle.ceiling_kernel.proofs.MachineLaws.{works_of, own_of, picked_is_first, pending_parts}

module _ (node : Node) (jobs : List Job) (b lead : ℕ) (lt : b < length jobs)
    (fits : lead ≤ (job_at jobs b).executes)
    (others : (k : ℕ) → k < length jobs → k ≢ b
    → (job_at jobs b).ready + lead ≤ (job_at jobs k).ready) where
  pub leads : (m : ℕ) → m ≤ lead → executed_before node jobs ((job_at jobs b).ready + m) b ≡ m
  leads zero le =
      elim (cases_eq (executed_before node jobs ((job_at jobs b).ready + 0) b) 0) [
        | inl none ↦ none
        | inr some ↦ let early = began_strictly
            node jobs ((job_at jobs b).ready + 0) b (omega arith) in absurd (omega arith)
      ]
  leads (suc m) le =
      let t : ℕ = (job_at jobs b).ready + m in
      let ih = leads m (omega arith) in
      let w = works_of node jobs t b lt (omega arith) (omega arith) in
      let is = picked_is_first node jobs t w.0 w.1 in
      let pp = pending_parts node jobs t w.0 is.pending in
      let mine : w.0 ≡ b = elim (cases_eq w.0 b) [
        | inl same ↦ same
        | inr other ↦ absurd (omega (arith, others w.0 is.is_job other, pp.0))
      ] in
      let pick = subst (λ p. picked node jobs t ≡ Some p) mine w.1 in
      let one = own_of node jobs t b pick in
      let at : suc t ≡ (job_at jobs b).ready + suc m = omega arith in
      subst (λ x. executed_before node jobs x b ≡ suc m) at (omega arith)
