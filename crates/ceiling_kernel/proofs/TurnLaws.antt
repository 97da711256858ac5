-- In which order jobs become ready, and whose turn has come.
use Rattle.std.proofs.Common.{ℕ, zero, suc, ◌<◌, ◌≤◌, ◌≡◌, ◌≢◌, ◌⊎◌, inl, inr, refl, sym, ap}
use Rattle.std.proofs.Common.{◌∙◌, subst, arith, List, length, true, false, ◌==◌}
use Rattle.std.proofs.lemmas.Bool.{cases_eq, cases_lt, cases_Bool, true≢false, eq-eqb, ne_eqb}
use Rattle.std.proofs.lemmas.Bool.{eqb-true}
use Rattle.task_sheet.specs.Sheet.{task_at}
use Rattle.task_sheet.proofs.Below.{some_below-at, some_below-none}
use Rattle.ceiling_kernel.specs.Tick.{Node, Job, job_at}
use Rattle.ceiling_kernel.specs.Waits.{IsNode, AreLegalJobs}
use Rattle.ceiling_kernel.specs.Turns.{ComesBefore, time_in_turn, job_in_turn, AreTurns, has_come}
use Rattle.ceiling_kernel.specs.Turns.{TasksKeepOrder}
use Rattle.ceiling_kernel.proofs.NodeLaws.{IsSoundTask, sound}

-- a job is late by less than a period, so it is ready before the next job of its task arrives
pub keeps_order : (node : Node) (jobs : List Job) → IsNode node → AreLegalJobs node jobs
    → TasksKeepOrder jobs
keeps_order node jobs valid legal j k jk lt same =
    let below : j < length jobs = omega arith in
    let v : IsSoundTask node (job_at jobs j).task = (sound node valid).each (job_at jobs j).task
    (legal.known j below) in
    omega (
      arith,
      legal.not_late j below,
      v.late_before,
      legal.spaced j k jk lt same,
      ap
          (λ i. (task_at node.tasks i).period) same,
      legal.not_early k lt,
    )

before_differs : (jobs : List Job) (j k : ℕ) → ComesBefore jobs j k → j ≢ k
before_differs jobs j k before same =
    elim before [
      | inl less ↦ omega (arith, ap (λ i. (job_at jobs i).ready) same)
      | inr tied ↦ omega (arith, tied.1, same)
    ]

-- who has come had a turn
pub come_turn : (turns : List (ℕ × ℕ)) (n j : ℕ) → has_come turns n j ≡ true → (m : ℕ) × (m < n)
    × (job_in_turn turns m ≡ j)
come_turn turns zero j h = absurd (true≢false (sym h))
come_turn turns (suc n) j h =
    elim (cases_Bool (job_in_turn turns n == j)) [
      | inl here ↦ (n, omega arith, eqb-true (job_in_turn turns n) j here)
      | inr other ↦
          elim (cases_Bool (has_come turns n j)) [
            | inl before ↦ (let w = come_turn turns n j before in (w.0, omega (arith, w.1), w.2))
            | inr not ↦ (let f : false ≡ true = rw (other, not) at h in absurd (true≢false (sym f)))
          ]
    ]

pub come_of : (turns : List (ℕ × ℕ)) (n m : ℕ) → m < n
    → has_come turns n (job_in_turn turns m) ≡ true
come_of turns n m lt = some_below-at n (λ k. job_in_turn turns k == job_in_turn turns m) m lt
    (eq-eqb (job_in_turn turns m) (job_in_turn turns m) refl)

-- the others have come as before
pub come_others : (turns : List (ℕ × ℕ)) (n j : ℕ) → j ≢ job_in_turn turns n
    → has_come turns (suc n) j ≡ has_come turns n j
come_others turns n j differ =
    let f = ne_eqb (job_in_turn turns n) j (λ same. differ (sym same)) in
    elim (cases_Bool (has_come turns n j)) [ inl t ↦ rw t refl | inr t ↦ rw (t, f) ]

module _ (jobs : List Job) (turns : List (ℕ × ℕ)) (are : AreTurns jobs turns) where
  -- the job whose turn is next hasn't come
  pub next_fresh : (n : ℕ) → n < length turns → has_come turns n (job_in_turn turns n) ≡ false
  next_fresh n lt = some_below-none n (λ m. job_in_turn turns m == job_in_turn turns n)
      (λ m below. ne_eqb (job_in_turn turns m) (job_in_turn turns n)
      (before_differs jobs (job_in_turn turns m) (job_in_turn turns n) (are.ordered m n below lt)))

  -- who hasn't come has a turn ahead
  pub turn_ahead : (n j : ℕ) → has_come turns n j ≡ false → j < length jobs → (m : ℕ) × (n ≤ m)
      × (m < length turns) × (job_in_turn turns m ≡ j)
  turn_ahead n j not lt =
      let w : (m : ℕ) × (m < length turns) × (job_in_turn turns m ≡ j) = are.complete j lt in
      elim (cases_lt w.0 n) [
        | inl past ↦
            let t = subst (λ x. has_come turns n x ≡ true) w.2 (come_of turns n w.0 past) in
            absurd (true≢false (sym t ∙ not))
        | inr ahead ↦ (w.0, ahead, w.1, w.2)
      ]

  -- and doesn't come before the job whose turn is next
  pub next_first : (n j : ℕ) → has_come turns n j ≡ false → j < length jobs
      → (j ≡ job_in_turn turns n) ⊎ ComesBefore jobs (job_in_turn turns n) j
  next_first n j not lt =
      let w = turn_ahead n j not lt in
      elim (cases_eq w.0 n) [
        | inl same ↦ inl (sym w.3 ∙ ap (job_in_turn turns) same)
        | inr differ ↦ inr (subst (ComesBefore jobs (job_in_turn turns n)) w.3
            (are.ordered n w.0 (omega (arith, w.1)) w.2))
      ]

  pub next_time : (n j : ℕ) → has_come turns n j ≡ false → j < length jobs → (n < length turns)
      × (time_in_turn turns n ≤ (job_at jobs j).ready)
  next_time n j not lt =
      let w = turn_ahead n j not lt in
      let in_turns : n < length turns = omega (arith, w.1, w.2) in
      let timed = are.timed n in_turns in (
        in_turns,
        elim (next_first n j not lt) [
          | inl same ↦ omega (arith, ap (λ i. (job_at jobs i).ready) same)
          | inr before ↦ elim before [ inl less ↦ omega arith | inr tied ↦ omega (arith, tied.0) ]
        ],
      )
