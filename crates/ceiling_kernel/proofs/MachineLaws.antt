-- The tick rule is a machine of the kind of which the busy interval speaks.
use Rattle.std.proofs.Common.{ℕ, suc, ◌-◌, ◌<◌, ◌≤◌, ◌≡◌, ◌≢◌, ◌⊎◌, inl, inr, refl, sym, arith}
use Rattle.std.proofs.Common.{if◌then◌else◌, Bool, true, false, List, length, Some, None, nat_le}
use Rattle.std.proofs.Common.{nat_lt, eqb}
use Rattle.std.proofs.lemmas.Bool.{cases_eq, cases_lt, cases_Bool, lt-ltb, le-leb, lt-leb, leb-true}
use Rattle.std.proofs.lemmas.Bool.{ltb-true, and_parts, and_from, eq-eqb, ne_eqb}
use Rattle.ceiling_kernel.specs.Tick.{Node, Job, job_at, job_task, level_of_job, is_pending}
use Rattle.ceiling_kernel.specs.Tick.{active_of, held_ceiling, one_more, executed_before, picked}
use Rattle.ceiling_kernel.proofs.PickLaws.{IsBest, best_some, best_none, best_exists}
use Rattle.ceiling_kernel.specs.Readings.{IsPicked}
use Rattle.ceiling_kernel.proofs.BehaviourLaws.{HasSpans, taken_apart}
use Rattle.ceiling_kernel.proofs.SectionLaws.{rest_of, rest_after, rest_from_held, stretch}
use Rattle.ceiling_kernel.proofs.SectionLaws.{stretch_held, stretch_from, stretch_next, stretch-le}
use Rattle.ceiling_kernel.proofs.Busy.{IsMachine}

module _ (node : Node) (jobs : List Job) where
  pub start_of : (j : ℕ) → executed_before node jobs 0 j ≡ 0
  unfolding executed_before
  start_of j = refl

  pub tick_of : (t j : ℕ) → executed_before node jobs (suc t) j
      ≡ one_more (picked node jobs t) (executed_before node jobs t) j
  unfolding executed_before picked
  tick_of t j = refl

  pub idle_of : (t j : ℕ) → picked node jobs t ≡ None
      → executed_before node jobs (suc t) j ≡ executed_before node jobs t j
  idle_of t j e = rw (tick_of t j, e)

  pub own_of : (t p : ℕ) → picked node jobs t ≡ Some p
      → executed_before node jobs (suc t) p ≡ suc (executed_before node jobs t p)
  own_of t p e = rw (tick_of t p, e, eq-eqb p p refl) (omega arith)

  pub other_of : (t p j : ℕ) → picked node jobs t ≡ Some p → j ≢ p
      → executed_before node jobs (suc t) j ≡ executed_before node jobs t j
  other_of t p j e ne = let differ : eqb p j ≡ false = ne_eqb p j (λ same. ne (sym same)) in
      rw (tick_of t j, e, differ)

  -- the pick of a tick, by the state before it
  abbrev pub IsPick : ℕ → ℕ → Type 0
  IsPick t p = IsBest (is_pending jobs (executed_before node jobs t) t)
      (active_of node jobs (executed_before node jobs t)) (level_of_job node jobs) (length jobs) p

  pub picked_is : (t p : ℕ) → picked node jobs t ≡ Some p → IsPick t p
  unfolding picked
  picked_is t p e = best_some (is_pending jobs (executed_before node jobs t) t)
      (active_of node jobs (executed_before node jobs t)) (level_of_job node jobs) (length jobs) p e

  pub pending_from : (t k : ℕ) → (job_at jobs k).ready ≤ t → executed_before node jobs t k
      < (job_at jobs k).executes → is_pending jobs (executed_before node jobs t) t k ≡ true
  pending_from t k r c = and_from (nat_le (job_at jobs k).ready t) (nat_lt
      (executed_before node jobs t k) (job_at jobs k).executes) (le-leb (job_at jobs k).ready t r)
      (lt-ltb (executed_before node jobs t k) (job_at jobs k).executes c)

  pub pending_parts : (t k : ℕ) → is_pending jobs (executed_before node jobs t) t k ≡ true
      → ((job_at jobs k).ready ≤ t) × (executed_before node jobs t k < (job_at jobs k).executes)
  pending_parts t k h =
      let p = and_parts (nat_le (job_at jobs k).ready t)
      (nat_lt (executed_before node jobs t k) (job_at jobs k).executes) h in (
        leb-true (job_at jobs k).ready t p.0,
        ltb-true (executed_before node jobs t k)
            (job_at jobs k).executes p.1,
      )

  pub works_of : (t k : ℕ) → k < length jobs → (job_at jobs k).ready ≤ t → executed_before node jobs
      t k < (job_at jobs k).executes → (p : ℕ) × (picked node jobs t ≡ Some p)
  unfolding picked
  works_of t k lt r c = best_exists (is_pending jobs (executed_before node jobs t) t)
      (active_of node jobs (executed_before node jobs t)) (level_of_job node jobs) (length jobs) k
      lt (pending_from t k r c)

  module _ (level : ℕ) (some : 0 < level) (spanned : (j : ℕ) → HasSpans node jobs j) where
    abbrev pub is_high : ℕ → Bool
    is_high j = nat_le level (level_of_job node jobs j)

    abbrev pub rest_at : ℕ → ℕ → ℕ
    rest_at j e = if is_high j then 0 else stretch node level (job_at jobs j).sections
        ((job_at jobs j).executes - e) e

    -- what is left lies within what is left of a span
    pub within_span : (j e : ℕ)
        → 0 < stretch node level (job_at jobs j).sections ((job_at jobs j).executes - e) e
        → (stretch node level (job_at jobs j).sections ((job_at jobs j).executes - e) e
        ≤ rest_of node level (spanned j).spans e) × (0 < e) × (e < (job_at jobs j).executes)
    within_span j e h =
        let o : HasSpans node jobs j = spanned j in
        let apart = taken_apart (job_task node jobs j).sections 0 (job_at jobs j).executes o.spans
        o.taken in
        let le = stretch-le node level some 0 (job_at jobs j).executes (job_at jobs j).sections
        o.spans apart o.above ((job_at jobs j).executes - e) e in
        let in_ = rest_after node level 0 (job_at jobs j).executes o.spans e apart (omega arith) in
        (le, in_.0, in_.1)

    -- before its end a job's held ceiling that reaches the level is held inside of a span
    pub before_end : (j e : ℕ) → level ≤ held_ceiling node (job_at jobs j).sections e
        → e < (job_at jobs j).executes
    before_end j e h =
        let o : HasSpans node jobs j = spanned j in
        let apart = taken_apart (job_task node jobs j).sections 0 (job_at jobs j).executes o.spans
        o.taken in
        let up = o.above e in
        (rest_after node level 0 (job_at jobs j).executes o.spans e apart
        (rest_from_held node level o.spans e some (omega arith))).1

    -- a job is high or inside a reaching section exactly where its active priority is at least the level
    hot_from_active : (j t : ℕ) → level ≤ active_of node jobs (executed_before node jobs t) j
        → (is_high j ≡ true) ⊎ (0 < rest_at j (executed_before node jobs t j))
    hot_from_active j t h =
        elim (cases_lt (level_of_job node jobs j) level) [
          | inr ge ↦ inl (le-leb level (level_of_job node jobs j) ge)
          | inl low ↦
              let held : level ≤ held_ceiling node (job_at jobs j).sections
              (executed_before node jobs t j) = omega arith in
              let open_ = before_end j (executed_before node jobs t j) held in
              let left = stretch_from node level (job_at jobs j).sections
              ((job_at jobs j).executes - executed_before node jobs t j)
              (executed_before node jobs t j) (omega arith) held in
              inr (rw (lt-leb level (level_of_job node jobs j) low) left)
        ]

    low_rest : (j e : ℕ) → 0 < rest_at j e → (is_high j ≡ false)
        × (0 < stretch node level (job_at jobs j).sections ((job_at jobs j).executes - e) e)
    low_rest j e h =
        elim (cases_Bool (is_high j)) [
          | inl is ↦ (let none : 0 < 0 = rw is at h in absurd (omega arith))
          | inr not ↦ (not, rw not at h)
        ]

    active_from_hot : (j t : ℕ) → (is_high j ≡ true)
        ⊎ (0 < rest_at j (executed_before node jobs t j))
        → level ≤ active_of node jobs (executed_before node jobs t) j
    active_from_hot j t h =
        elim h [
          | inl is ↦ omega (arith, leb-true level (level_of_job node jobs j) is)
          | inr left ↦
              omega (
                arith,
                stretch_held node level (job_at jobs j).sections
                    ((job_at jobs j).executes - executed_before node jobs t j) (executed_before node
                    jobs t j) (low_rest j (executed_before node jobs t j) left).1,
              )
        ]

    pub machine : IsMachine (length jobs) (λ j. (job_at jobs j).ready) (λ j.
        (job_at jobs j).executes) is_high rest_at (executed_before node jobs) (picked node jobs)
    machine = record {
      at_start = start_of;
      when_idle = idle_of;
      of_picked = own_of;
      of_other = other_of;
      picked_exists = λ t p e. ((picked_is t p e).below);
      picked_ready =
          λ t p e. ((pending_parts t p (picked_is t p e).is_pending).0);
      picked_unfinished =
          λ t p e. ((pending_parts t p (picked_is t p e).is_pending).1);
      works = works_of;
      hot_first = λ t p k e lt r c hot.
          let at_least = active_from_hot k t hot in
          hot_from_active p t (elim ((picked_is t p e).first k lt (pending_from t k r c)) [
            | inl less ↦ omega arith
            | inr tied ↦ omega arith
          ]);
      rest_low = λ j e is. rw is;
      rest_first = λ j. (elim (cases_eq (rest_at j 0) 0) [
        | inl none ↦ none
        | inr some_left ↦ (let low = low_rest j 0 (omega arith) in absurd
            (omega (arith, (within_span j 0 low.1).1)))
      ]);
      rest_next = λ j e h.
          let low = low_rest j e h in
          rw low.0 (stretch_next node level (job_at jobs j).sections (job_at jobs j).executes e
          (within_span j e low.1).2 low.1);
      rest_inside = λ j e h. (within_span j e (low_rest j e h).1).2;
    }

-- the pick, in its own words
pub picked_is_first : (node : Node) (jobs : List Job) (t p : ℕ) → picked node jobs t ≡ Some p
    → IsPicked node jobs t p
picked_is_first node jobs t p e = (let is : IsPick node jobs t p = picked_is node jobs t p e in
    record { is_job = is.below; pending = is.is_pending; first = is.first })

pub none_pending : (node : Node) (jobs : List Job) (t k : ℕ) → picked node jobs t ≡ None
    → k < length jobs → is_pending jobs (executed_before node jobs t) t k ≡ false
unfolding picked
none_pending node jobs t k e lt = best_none (is_pending jobs (executed_before node jobs t) t)
    (active_of node jobs (executed_before node jobs t)) (level_of_job node jobs)
    (length jobs) k e lt
