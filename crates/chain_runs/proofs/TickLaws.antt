-- What happens to the jobs of a task in a slice, and in the idle ticks before it.
use Rattle.std.proofs.Common.{ℕ, zero, suc, ◌+◌, ◌-◌, ◌<◌, ◌≤◌, ◌≡◌, inl, inr, sym, ap, ◌∙◌}
use Rattle.std.proofs.Common.{subst, arith, List, length, Some}
use Rattle.std.proofs.lemmas.Option.{same_Some}
use Rattle.std.proofs.lemmas.Bool.{cases_lt, cases_order}
use Rattle.ceiling_kernel.specs.Readings.{IsFinishAt}
use Rattle.ceiling_kernel.specs.Waits.{NoOverrun}
use Rattle.ceiling_kernel.proofs.Common.{Node, Job, job_at, executed_before, picked}
use Rattle.ceiling_kernel.proofs.MachineLaws.{IsPick, picked_is, pending_parts}
use Rattle.ceiling_kernel.proofs.FinishLaws.{done_grows}
use Rattle.chains.specs.Starts.{IsStartAt}
use Rattle.chains.proofs.TickLaws.{tick_cases}
use Rattle.chains.proofs.NewestLaws.{started}
use Rattle.chains.proofs.OrderLaws.{finish_by}

module _ (node : Node) (jobs : List Job) where
  -- job q has begun and isn't finished
  abbrev pub InFlight : (t q : ℕ) → Type 0
  InFlight t q =
      (0 < executed_before node jobs t q) × (executed_before node jobs t q < (job_at jobs q).executes)

  -- the ticks from one time up to another pick none but job j
  abbrev pub OnlyPicks : (j t u : ℕ) → Type 0
  OnlyPicks j t u = (v p : ℕ) → t ≤ v → v < u → picked node jobs v ≡ Some p → p ≡ j

  -- who finishes is picked in the tick before
  pub finish_picked : (q g : ℕ) → IsFinishAt node jobs q g → picked node jobs (g - 1) ≡ Some q
  finish_picked q g is =
      let some = is.some in
      let before = is.before in
      let back : suc (g - 1) ≡ g = omega arith in
      let after = subst (λ x. (job_at jobs q).executes ≤ executed_before node jobs x q) (sym back) is.after in
      elim (tick_cases node jobs (g - 1) q) [
        | inl same ↦ absurd (omega arith)
        | inr mine ↦ mine.0
      ]

  -- who is picked is ready and lacks some of its ticks
  pub picked_parts : (t p : ℕ) → picked node jobs t ≡ Some p → (p < length jobs)
      × ((job_at jobs p).ready ≤ t) × (executed_before node jobs t p < (job_at jobs p).executes)
  picked_parts t p e =
      let is : IsPick node jobs t p = picked_is node jobs t p e in
      let parts = pending_parts node jobs t p is.is_pending in
      (is.below, parts.0, parts.1)

  -- a job that isn't picked executes nothing
  still_by : (q t n : ℕ) → ((v : ℕ) → t ≤ v → v < t + n → picked node jobs v ≡ Some q → ⊥)
      → executed_before node jobs (t + n) q ≡ executed_before node jobs t q
  still_by q t zero never = (let e : t + 0 ≡ t = omega arith in ap (λ x. executed_before node jobs x q) e)
  still_by q t (suc n) never =
      let e : t + suc n ≡ suc (t + n) = omega arith in
      let rest : executed_before node jobs (t + n) q ≡ executed_before node jobs t q =
      still_by q t n (λ v lo hi. never v lo (omega arith)) in
      elim (tick_cases node jobs (t + n) q) [
        | inl same ↦ ap (λ x. executed_before node jobs x q) e ∙ (same ∙ rest)
        | inr mine ↦ absurd (never (t + n) (omega arith) (omega arith) mine.0)
      ]

  pub still : (q t u : ℕ) → t ≤ u → ((v : ℕ) → t ≤ v → v < u → picked node jobs v ≡ Some q → ⊥)
      → executed_before node jobs u q ≡ executed_before node jobs t q
  still q t u le never =
      let e : t + (u - t) ≡ u = omega arith in
      ap (λ x. executed_before node jobs x q) (sym e)
      ∙ still_by q t (u - t) (λ v lo hi. never v lo (omega arith))

  -- who finishes after t and until u is picked between
  pub comes_picked : (j t u q g : ℕ) → OnlyPicks j t u → IsFinishAt node jobs q g → t < g → g ≤ u
      → q ≡ j
  comes_picked j t u q g only is lo hi =
      only (g - 1) q (omega arith) (omega arith) (finish_picked q g is)

  -- a job finishes once
  pub finish_once : (q f g : ℕ) → IsFinishAt node jobs q f → IsFinishAt node jobs q g → f ≡ g
  finish_once q f g one other =
      let le = finish_by node jobs g q f one other.after in
      let ge = finish_by node jobs f q g other one.after in
      omega arith

  -- two jobs that finish at one time are one
  pub finish_apart : (p q f : ℕ) → IsFinishAt node jobs p f → IsFinishAt node jobs q f → p ≡ q
  finish_apart p q f one other =
      same_Some p q (sym (finish_picked p f one) ∙ finish_picked q f other)

  -- and starts before
  pub start_before : (q s f : ℕ) → IsStartAt node jobs q s → IsFinishAt node jobs q f → s < f
  start_before q s f start is =
      elim (cases_lt s f) [
        | inl before ↦ before
        | inr by ↦
            let none = start.first in
            let lacks = is.before in
            let after = is.after in
            absurd (omega (arith, done_grows node jobs q f s by))
      ]

  -- while no job overruns the one before it, a job in flight is the one of its task that is picked next
  pub one_flies : NoOverrun node jobs → (t u q j : ℕ) → t ≤ u
      → executed_before node jobs u q ≡ executed_before node jobs t q → InFlight t q
      → picked node jobs u ≡ Some j → (job_at jobs q).task ≡ (job_at jobs j).task → q ≡ j
  one_flies no_overrun t u q j le same flies runs own =
      let parts = picked_parts u j runs in
      let here : InFlight u q = (omega (arith, flies.0), omega (arith, flies.1)) in
      elim (cases_order q j) [
        | inl e ↦ e
        | inr (inl before) ↦ absurd (no_overrun j parts.0 (
          q,
          before,
          own,
          omega (arith, here.1, done_grows node jobs q (job_at jobs j).ready u parts.1),
        ))
        | inr (inr after) ↦
            let s = started node jobs u q here.0 in
            let mine = picked_parts s.0 q s.2.runs in
            absurd (no_overrun q mine.0 (
              j,
              after,
              sym own,
              omega (arith, parts.2, done_grows node jobs j (job_at jobs q).ready u (omega (arith, mine.1, s.1))),
            ))
      ]
