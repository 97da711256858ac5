-- Several ticks at once: from one event to the next the pick stays.
use Rattle.std.proofs.Common.{ℕ, zero, suc, ◌+◌, ◌-◌, ◌<◌, ◌≤◌, ◌≡◌, ◌≢◌, inl, inr, refl, sym}
use Rattle.std.proofs.Common.{◌∙◌, subst, arith, true, false, ◌==◌, ◌&&◌, List, [], ◌∷◌, length}
use Rattle.std.proofs.Common.{Option, Some, None, nat_le, eqb, add-one}
use Rattle.std.proofs.lemmas.Bool.{cases_eq, cases_lt, cases_Bool, lt-ltb, le-ltb, le-leb, lt-leb}
use Rattle.std.proofs.lemmas.Bool.{eq-eqb}
use Rattle.ceiling_kernel.specs.declared.trace.Slice.{Slice}
use Rattle.task_sheet.specs.Sheet.{CriticalSection}
use Rattle.ceiling_kernel.specs.Tick.{Node, Job, job_at, level_of_job, is_pending, active_of}
use Rattle.ceiling_kernel.specs.Tick.{executed_before, picked, is_inside, held_ceiling}
use Rattle.ceiling_kernel.specs.Trace.{slices_before, with_run, with_tick}
use Rattle.ceiling_kernel.specs.Jumps.{change_after, NoneReadyBetween, PickStays, IdleStays}
use Rattle.ceiling_kernel.specs.Behaviours.{AreApart, TakeTurns}
use Rattle.ceiling_kernel.proofs.BehaviourLaws.{turns_apart}
use Rattle.ceiling_kernel.proofs.SectionLaws.{inside_from, outside_before, outside_after}
use Rattle.ceiling_kernel.proofs.LockLaws.{held_before}
use Rattle.ceiling_kernel.proofs.PickLaws.{best_same}
use Rattle.ceiling_kernel.proofs.MachineLaws.{idle_of, own_of, other_of, picked_is, IsPick}
use Rattle.ceiling_kernel.proofs.MachineLaws.{pending_parts, pending_from}

-- Slices: a run of ticks of one job is added at once
slices_step : (run : ℕ → Option ℕ) (t : ℕ)
    → slices_before run (suc t) ≡ with_tick (slices_before run t) t (run t)
unfolding slices_before
slices_step run t = refl

run_joins : (ss : List Slice) (job start mid stop : ℕ)
    → with_run (with_run ss job start mid) job mid stop ≡ with_run ss job start stop
run_joins [] job start mid stop = rw (eq-eqb job job refl, eq-eqb mid mid refl)
run_joins (s ∷ ss) job start mid stop =
    let j : eqb job job ≡ true = eq-eqb job job refl in
    let m : eqb mid mid ≡ true = eq-eqb mid mid refl in
    elim (cases_Bool ((s.job == job) && (s.stop == start))) [
      | inl joins ↦ rw (joins, j, m)
      | inr apart ↦ rw (apart, j, m)
    ]

pub slices_run : (run : ℕ → Option ℕ) (t u job : ℕ) → t < u
    → ((x : ℕ) → t ≤ x → x < u → run x ≡ Some job)
    → slices_before run u ≡ with_run (slices_before run t) job t u
slices_run run t zero job lt same = absurd (omega arith)
slices_run run t (suc u) job lt same =
    let here : run u ≡ Some job = same u (omega arith) (omega arith) in
    elim (cases_eq t u) [
      | inl e ↦ rw (e, slices_step run u, here, add-one u)
      | inr ne ↦
          let before = slices_run run t u job (omega arith) (λ x ge le. same x ge (omega arith)) in
          rw (slices_step run u, here, before, add-one u)
          (run_joins (slices_before run t) job t u (suc u))
    ]

pub slices_idle : (run : ℕ → Option ℕ) (t u : ℕ) → t ≤ u
    → ((x : ℕ) → t ≤ x → x < u → run x ≡ None) → slices_before run u ≡ slices_before run t
slices_idle run t zero le same = (let e : t ≡ 0 = omega arith in rw e)
slices_idle run t (suc u) le same = elim (cases_eq t (suc u)) [
  | inl e ↦ rw e
  | inr ne ↦
      let before = slices_idle run t u (omega arith) (λ x ge lt. same x ge (omega arith)) in
      let here : run u ≡ None = same u (omega arith) (omega arith) in
      rw (slices_step run u, here, before)
]

-- What a job holds stays up to the next boundary
pub held_same : (node : Node) (begin cost : ℕ) (ss : List CriticalSection) (e e' limit : ℕ)
    → AreApart begin ss cost → e ≤ e' → e' < change_after ss e limit
    → held_ceiling node ss e' ≡ held_ceiling node ss e
held_same node begin cost [] e e' limit apart le lt = refl
held_same node begin cost (s ∷ ss) e e' limit apart le lt =
    elim (cases_lt s.at e) [
      | inr at_most ↦
          let bound : e' < s.at + 1 = rw (le-leb e s.at at_most) at lt in
          let out' : is_inside s e' ≡ false = outside_before s e' (omega arith) in
          let a = held_before node (s.at + s.len) cost ss e apart.2 (omega arith) in
          let b = held_before node (s.at + s.len) cost ss e' apart.2 (omega arith) in
          rw (outside_before s e at_most, out', a, b)
      | inl past ↦
          let x : nat_le e s.at ≡ false = lt-leb e s.at past in
          elim (cases_lt e (s.at + s.len)) [
            | inl within ↦
                let bound : e' < s.at + s.len = rw (x, lt-ltb e (s.at + s.len) within) at lt in
                let in' : is_inside s e' ≡ true = inside_from s e' (omega arith) bound in
                let a = held_before node (s.at + s.len) cost ss e apart.2 (omega arith) in
                let b = held_before node (s.at + s.len) cost ss e' apart.2 (omega arith) in
                rw (inside_from s e past within, in', a, b)
            | inr after ↦
                let later : e' < change_after ss e limit = rw (x, le-ltb e (s.at + s.len) after) at
                lt in
                let out' : is_inside s e' ≡ false = outside_after s e' (omega arith) in
                let ih = held_same node (s.at + s.len) cost ss e e' limit apart.2 le later in
                rw (outside_after s e after, out', ih)
          ]
    ]

-- the next boundary lies above e
pub change_ahead : (ss : List CriticalSection) (e limit : ℕ) → e < limit
    → e < change_after ss e limit
change_ahead [] e limit lt = lt
change_ahead (s ∷ ss) e limit lt =
    elim (cases_lt s.at e) [
      | inr at_most ↦ rw (le-leb e s.at at_most) (omega arith)
      | inl past ↦
          let x : nat_le e s.at ≡ false = lt-leb e s.at past in
          elim (cases_lt e (s.at + s.len)) [
            | inl within ↦ rw (x, lt-ltb e (s.at + s.len) within) within
            | inr after ↦ rw (x, le-ltb e (s.at + s.len) after) (change_ahead ss e limit lt)
          ]
    ]

-- and no further than the cost
pub change_above : (begin cost : ℕ) (ss : List CriticalSection) (e : ℕ) → AreApart begin ss cost
    → e < cost → (e < change_after ss e cost) × (change_after ss e cost ≤ cost)
change_above begin cost [] e apart lt = (lt, omega arith)
change_above begin cost (s ∷ ss) e apart lt =
    let c : s.at + s.len ≤ cost = end_within (s.at + s.len) cost ss apart.2 in
    elim (cases_lt s.at e) [
      | inr at_most ↦
          rw (le-leb e s.at at_most) (omega arith, omega arith)
      | inl past ↦
          let x : nat_le e s.at ≡ false = lt-leb e s.at past in
          elim (cases_lt e (s.at + s.len)) [
            | inl within ↦ rw (x, lt-ltb e (s.at + s.len) within) (omega arith, omega arith)
            | inr after ↦ rw (x, le-ltb e (s.at + s.len) after)
                (change_above (s.at + s.len) cost ss e apart.2 lt)
          ]
    ]
  where
    end_within : (begin cost : ℕ) (ss : List CriticalSection) → AreApart begin ss cost
        → begin ≤ cost
    end_within begin cost [] apart = apart
    end_within begin cost (s ∷ ss) apart = omega (arith, end_within (s.at + s.len) cost ss apart.2)

module _ (node : Node) (jobs : List Job) where
  -- who is ready stays the same up to a time before which nobody becomes ready
  ready_same : (t u : ℕ) → NoneReadyBetween jobs t u → (j : ℕ) → j < length jobs → (x : ℕ) → t ≤ x
      → x < u → nat_le (job_at jobs j).ready x ≡ nat_le (job_at jobs j).ready t
  ready_same t u none j below x ge lt =
      elim (cases_lt t (job_at jobs j).ready) [
        | inl late ↦ lt-leb (job_at jobs j).ready x (omega (arith, none j below late))
            ∙ sym (lt-leb (job_at jobs j).ready t late)
        | inr early ↦ le-leb (job_at jobs j).ready x (omega arith)
            ∙ sym (le-leb (job_at jobs j).ready t early)
      ]

  module _ (t u p : ℕ) (apart : AreApart 0 (job_at jobs p).sections (job_at jobs p).executes)
      (now : picked node jobs t ≡ Some p) (none : NoneReadyBetween jobs t u)
      (within : executed_before node jobs t p + (u - t) ≤ change_after (job_at jobs p).sections
      (executed_before node jobs t p) (job_at jobs p).executes) where
    abbrev pub After : ℕ → Type 0
    After x = (executed_before node jobs x p ≡ executed_before node jobs t p + (x - t))
        × ((j : ℕ) → j ≢ p → executed_before node jobs x j ≡ executed_before node jobs t j)

    same_pick : (x : ℕ) → t ≤ x → x < u → After x → picked node jobs x ≡ Some p
    unfolding picked
    same_pick x ge lt after =
        let is : IsPick node jobs t p = picked_is node jobs t p now in
        let pp = pending_parts node jobs t p is.is_pending in
        let above = change_above 0 (job_at jobs p).executes (job_at jobs p).sections
        (executed_before node jobs t p) apart pp.1 in
        let own : executed_before node jobs x p ≡ executed_before node jobs t p + (x - t) =
        after.0 in
        best_same (is_pending jobs (executed_before node jobs x) x)
        (is_pending jobs (executed_before node jobs t) t)
        (active_of node jobs (executed_before node jobs x))
        (active_of node jobs (executed_before node jobs t)) (level_of_job node jobs) (length jobs)
        (λ j below. elim (cases_eq j p) [
          | inl e ↦ subst (λ z. is_pending jobs (executed_before node jobs x) x z
              ≡ is_pending jobs (executed_before node jobs t) t z) (sym e)
              (pending_from node jobs x p (omega arith) (omega arith) ∙ sym is.is_pending)
          | inr ne ↦ rw (ready_same t u none j below x ge lt, after.1 j ne)
        ])
        (λ j below. elim (cases_eq j p) [
          | inl e ↦
              let held = held_same node 0 (job_at jobs p).executes (job_at jobs p).sections
              (executed_before node jobs t p) (executed_before node jobs t p + (x - t))
              (job_at jobs p).executes apart (omega arith) (omega arith) in
              let y : active_of node jobs (executed_before node jobs x) p
              ≡ active_of node jobs (executed_before node jobs t) p = rw (own, held) in
              subst (λ z. active_of node jobs (executed_before node jobs x) z
              ≡ active_of node jobs (executed_before node jobs t) z) (sym e) y
          | inr ne ↦ rw (after.1 j ne)
        ])
        ∙ now

    start : After t
    start = (omega arith, λ j ne. refl)

    pub after : (x : ℕ) → t ≤ x → x ≤ u → After x
    after zero ge le = (let e : t ≡ 0 = omega arith in subst After e start)
    after (suc x) ge le = elim (cases_eq t (suc x)) [
      | inl e ↦ subst After e start
      | inr ne ↦
          let before : After x = after x (omega arith) (omega arith) in
          let pick : picked node jobs x ≡ Some p =
          same_pick x (omega arith) (omega arith) before in (
            omega (arith, own_of node jobs x p pick, before.0),
            λ j other. other_of node jobs x p j pick other ∙ before.1 j other,
          )
    ]

    -- the pick stays up to u
    pub stays : (x : ℕ) → t ≤ x → x < u → picked node jobs x ≡ Some p
    stays x ge lt = same_pick x ge lt (after x ge (omega arith))

  -- where no job is pending, none is until the next becomes ready
  module _ (t u : ℕ) (now : picked node jobs t ≡ None) (none : NoneReadyBetween jobs t u) where
    same_none : (x : ℕ) → t ≤ x → x < u
        → ((j : ℕ) → executed_before node jobs x j ≡ executed_before node jobs t j)
        → picked node jobs x ≡ None
    unfolding picked
    same_none x ge lt same =
        best_same (is_pending jobs (executed_before node jobs x) x)
        (is_pending jobs (executed_before node jobs t) t)
        (active_of node jobs (executed_before node jobs x))
        (active_of node jobs (executed_before node jobs t)) (level_of_job node jobs) (length jobs)
        (λ j below. rw (ready_same t u none j below x ge lt, same j)) (λ j below. rw (same j)) ∙ now

    pub idle_after : (x : ℕ) → t ≤ x → x ≤ u → (j : ℕ)
        → executed_before node jobs x j ≡ executed_before node jobs t j
    idle_after zero ge le j = (let e : t ≡ 0 = omega arith in rw e)
    idle_after (suc x) ge le j = elim (cases_eq t (suc x)) [
      | inl e ↦ rw e
      | inr ne ↦
          let before = idle_after x (omega arith) (omega arith) in
          idle_of node jobs x j (same_none x (omega arith) (omega arith) before) ∙ before j
    ]

    pub idle_stays : (x : ℕ) → t ≤ x → x < u → picked node jobs x ≡ None
    idle_stays x ge lt = same_none x ge lt (idle_after x ge (omega arith))

pub pick_stays_law : (node : Node) (jobs : List Job) → TakeTurns jobs → PickStays node jobs
pick_stays_law node jobs turns t k p now none within d lt =
    stays node jobs t (t + k) p (turns_apart jobs turns p) now none (omega (arith, within)) (t + d)
    (omega arith) (omega arith)

pub idle_stays_law : (node : Node) (jobs : List Job) → IdleStays node jobs
idle_stays_law node jobs t k now none d lt =
    idle_stays node jobs t (t + k) now none (t + d) (omega arith) (omega arith)
