-- Where a job of a task has written, there is a last one; and who finishes has started.
use Rattle.std.proofs.Common.{ℕ, zero, suc, ◌+◌, ◌<◌, ◌≤◌, ◌≡◌, ◌⊎◌, inl, inr, refl, arith}
use Rattle.std.proofs.Common.{List, length}
use Rattle.std.proofs.lemmas.Bool.{cases_eq, cases_lt}
use Rattle.task_sheet.proofs.Common.{task_at}
use Rattle.ceiling_kernel.specs.Readings.{IsFinishAt}
use Rattle.ceiling_kernel.proofs.Common.{Node, Job, job_at, executed_before}
use Rattle.ceiling_kernel.proofs.MachineLaws.{start_of, own_of}
use Rattle.ceiling_kernel.proofs.FinishLaws.{done_grows}
use Rattle.chains.specs.Starts.{IsStartAt, IsWrittenAt}
use Rattle.chains.specs.Paths.{IsNewest}
use Rattle.chains.specs.declared.bounds.Writes.{Writes}
use Rattle.chains.specs.declared.bounds.Writes.TheVariants.{AtFinish, AtDeadline}
use Rattle.chains.proofs.TickLaws.{tick_cases}
use Rattle.chains.proofs.GreatestLaws.{IsGreatest, greatest_of_some}
use Rattle.chains.proofs.OrderLaws.{finishes_by, finish_by}

module _ (node : Node) (jobs : List Job) where
  pub started : (t j : ℕ) → 0 < executed_before node jobs t j
      → (s : ℕ) × (s < t) × IsStartAt node jobs j s
  started zero j h =
      let none : executed_before node jobs 0 j ≡ 0 = start_of node jobs j in absurd (omega arith)
  started (suc t) j h =
      elim (tick_cases node jobs t j) [
        | inl e ↦
            let b : (s : ℕ) × (s < t) × IsStartAt node jobs j s = started t j (omega arith) in
            (b.0, omega (arith, b.1), b.2)
        | inr m ↦ elim (cases_eq (executed_before node jobs t j) 0) [
          | inl none ↦ (t, omega arith, record { runs = m.0; first = none })
          | inr some ↦
              let b : (s : ℕ) × (s < t) × IsStartAt node jobs j s = started t j (omega arith) in
              (b.0, omega (arith, b.1), b.2)
        ]
      ]

  pub finished_started : (j f : ℕ) → IsFinishAt node jobs j f → (s : ℕ) × IsStartAt node jobs j s
  finished_started j f is =
      let before = is.before in
      let after = is.after in
      let b = started f j (omega arith) in (b.0, b.2)

  -- a job starts once
  pub start_once : (j s t : ℕ) → IsStartAt node jobs j s → IsStartAt node jobs j t → s ≤ t
  start_once j s t first second =
      elim (cases_lt t s) [
        | inr ge ↦ ge
        | inl before ↦
            let none = first.first in
            absurd (omega (
              arith,
              own_of node jobs t j second.runs,
              done_grows node jobs j (suc t) s (omega arith),
            ))
      ]

-- a job writes once
pub written_once : (writes : Writes) (node : Node) (jobs : List Job) (j f g : ℕ)
    → IsWrittenAt writes node jobs j f → IsWrittenAt writes node jobs j g → g ≤ f
written_once AtFinish node jobs j f g one other = finish_by node jobs f j g other one.after
written_once AtDeadline node jobs j f g one other = omega (arith, one.1, other.1)

-- by a time it has written or not
written_cases : (writes : Writes) (node : Node) (jobs : List Job) (t j : ℕ)
    → ((f : ℕ) → IsWrittenAt writes node jobs j f → f ≤ t → ⊥)
    ⊎ ((f : ℕ) × IsWrittenAt writes node jobs j f × (f ≤ t))
written_cases AtFinish node jobs t j =
    elim (cases_lt 0 (job_at jobs j).executes) [
      | inr none ↦ inl (λ f is le. let before = is.before in omega arith)
      | inl some ↦ elim (cases_lt (executed_before node jobs t j) (job_at jobs j).executes) [
        | inl open_ ↦ inl (λ f is le. let after = is.after in
            omega (arith, done_grows node jobs j f t le))
        | inr done ↦ (let f = finishes_by node jobs t j some done in inr (f.0, f.2, f.1))
      ]
    ]
written_cases AtDeadline node jobs t j =
    let f : ℕ = (job_at jobs j).arrival + (task_at node.tasks (job_at jobs j).task).deadline in
    elim (cases_lt j (length jobs)) [
      | inr past ↦ inl (λ g is le. omega (arith, is.0))
      | inl lt ↦ elim (cases_lt t f) [
        | inl after ↦ inl (λ g is le. omega (arith, is.1))
        | inr by ↦ inr (f, (lt, refl), by)
      ]
    ]

module _ (writes : Writes) (node : Node) (jobs : List Job) where
  -- job j is of task i, and writes at f, by t
  abbrev EndsAt : (i t j f : ℕ) → Type 0
  EndsAt i t j f = ((job_at jobs j).task ≡ i) × IsWrittenAt writes node jobs j f × (f ≤ t)

  ends_once : (i t j f g : ℕ) → EndsAt i t j f → EndsAt i t j g → g ≤ f
  ends_once i t j f g one other = written_once writes node jobs j f g one.1 other.1

  ends_cases : (i t j : ℕ) → ((f : ℕ) → EndsAt i t j f → ⊥) ⊎ ((f : ℕ) × EndsAt i t j f)
  ends_cases i t j =
      elim (cases_eq (job_at jobs j).task i) [
        | inr other ↦ inl (λ f ends. other ends.0)
        | inl own ↦ elim (written_cases writes node jobs t j) [
          | inl not ↦ inl (λ f ends. not f ends.1 ends.2)
          | inr has ↦ inr (has.0, (own, has.1, has.2))
        ]
      ]

  -- where one has written, the output of one stands
  pub newest_exists : (i t q g : ℕ) → q < length jobs → (job_at jobs q).task ≡ i
      → IsWrittenAt writes node jobs q g → g ≤ t → (p : ℕ) × IsNewest writes node jobs i t p
  newest_exists i t q g lt own is le =
      let best : (p : ℕ) × IsGreatest (EndsAt i t) (ends_cases i t) (ends_once i t) (length jobs) p =
      greatest_of_some (EndsAt i t) (ends_cases i t) (ends_once i t) (length jobs) q g lt
      (own, is, le) in (
        best.0,
        record {
          is_job = best.1.below;
          own = best.1.has.0;
          finish = best.1.key;
          finished = best.1.has.1;
          in_time = best.1.has.2;
          last = λ r h below mine fin by. best.1.last r h below (mine, fin, by);
        },
      )
