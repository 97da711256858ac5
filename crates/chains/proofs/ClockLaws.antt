-- Of tasks that arrive on one clock: when the next job comes, and when what a job hands on along a chain is written by the last
-- task.
use Rattle.std.proofs.Common.{ℕ, zero, suc, ◌+◌, ◌-◌, ◌*◌, ◌<◌, ◌≤◌, ◌≡◌, inl, inr, refl, ap, ◌∙◌, arith}
use Rattle.std.proofs.Common.{List, [], ◌∷◌, length, Option, Some, None}
use Rattle.std.specs.Prelude.{drop, max}
use Rattle.std.proofs.Math.Nat.{le-max_left}
use Rattle.std.proofs.lemmas.Bool.{cases_lt}
use Rattle.std.proofs.lemmas.Option.{same_Some}
use Rattle.task_sheet.proofs.Common.{task_at}
use Rattle.ceiling_kernel.proofs.Common.{Node, Job, job_at}
use Rattle.chains.specs.Gaps.{gap_of, Follows, AreSteady}
use Rattle.chains.specs.Clocks.{IsOnClock, KeepsClock, KeepClock}
use Rattle.chains.specs.Bounds.{AllAct, delay_of, handed_within, written_within}
use Rattle.chains.specs.Walks.{bound_by, first_known, next_by, span_from, walk_from}
use Rattle.chains.specs.Parts.{after_of, steps_of}
use Rattle.chains.specs.declared.bounds.Writes.{Writes}
use Rattle.chains.proofs.PartLaws.{after_time, last_time}
use Rattle.chains.proofs.RoundLaws.{next_late, period_before, span_within_bound}
use Rattle.chains.proofs.WriteLaws.{write_some}

-- ---- jobs on a clock
-- the jobs of a task whose offset is known are on the clock
abbrev pub KeepsOffset : Node → List Job → (shift : ℕ) → Option ℕ → (i : ℕ) → Type 0
KeepsOffset node jobs shift None i = Unit {0}
KeepsOffset node jobs shift (Some offset) i = KeepsClock node jobs shift offset i

module _ (node : Node) (jobs : List Job) (shift : ℕ) where
  pub first_keeps : (offsets : List ℕ) (i : ℕ) (others : List ℕ)
      → KeepClock node jobs shift offsets (i ∷ others)
      → KeepsOffset node jobs shift (first_known offsets) i
  first_keeps [] i others keep = tt
  first_keeps (offset ∷ offsets) i others keep = keep.0

  pub others_keep : (offsets : List ℕ) (i : ℕ) (others : List ℕ)
      → KeepClock node jobs shift offsets (i ∷ others)
      → KeepClock node jobs shift (drop 1 offsets) others
  others_keep [] i others keep = tt
  others_keep (offset ∷ offsets) i others keep = keep.1

-- of task i, job j arrives before a, and job q then or later, within a gap of that one
pub record Crosses (node : Node) (jobs : List Job) (i a j q : ℕ) : Type 0 where
  pub left : j < length jobs
  pub left_own : (job_at jobs j).task ≡ i
  pub before : (job_at jobs j).arrival < a
  pub right : q < length jobs
  pub right_own : (job_at jobs q).task ≡ i
  pub from : a ≤ (job_at jobs q).arrival
  pub within : (job_at jobs q).arrival ≤ (job_at jobs j).arrival + gap_of (task_at node.tasks i)

module _ (node : Node) (jobs : List Job) (until i a : ℕ) (steady : AreSteady node jobs until i)
    (room : (j : ℕ) → j < length jobs → (job_at jobs j).task ≡ i → (job_at jobs j).arrival < a
    → (job_at jobs j).arrival + gap_of (task_at node.tasks i) < until) where
  -- a steady task that has begun goes on
  pub crosses : (n j : ℕ) → j < length jobs → (job_at jobs j).task ≡ i → (job_at jobs j).arrival < a
      → a ≤ (job_at jobs j).arrival + n → (k : ℕ) × (q : ℕ) × Crosses node jobs i a k q
  crosses zero j lt own before by = absurd (omega arith)
  crosses (suc n) j lt own before by =
      let next : (k : ℕ) × Follows node jobs i j k = steady j lt own (room j lt own before) in
      let later = next.1.later in
      elim (cases_lt (job_at jobs next.0).arrival a) [
        | inl still ↦ crosses n next.0 next.1.is_job next.1.own still (omega arith)
        | inr there ↦ (
          j,
          next.0,
          record {
            left = lt;
            left_own = own;
            before = before;
            right = next.1.is_job;
            right_own = next.1.own;
            from = there;
            within = next.1.in_time;
          },
        )
      ]

-- job q of task i arrives from x to y on a clock that began `shift` before the run
pub record ComesBy (jobs : List Job) (shift i x y q : ℕ) : Type 0 where
  pub is_job : q < length jobs
  pub own : (job_at jobs q).task ≡ i
  pub from : x ≤ (job_at jobs q).arrival + shift
  pub to : (job_at jobs q).arrival + shift ≤ y

module _ (node : Node) (jobs : List Job) (until shift i : ℕ) (offset : Option ℕ)
    (steady : AreSteady node jobs until i) (keeps : KeepsOffset node jobs shift offset i)
    (some : 0 < gap_of (task_at node.tasks i)) where
  -- the next job is sure to come no earlier than a gap after each one before
  gap_before_next : (o : Option ℕ) → KeepsOffset node jobs shift o i → (j x : ℕ) → j < length jobs
      → (job_at jobs j).task ≡ i → (job_at jobs j).arrival + shift < x
      → (job_at jobs j).arrival + shift + gap_of (task_at node.tasks i)
      ≤ next_by o (gap_of (task_at node.tasks i)) x
  gap_before_next None keep j x lt own before = omega arith
  gap_before_next (Some o) keep j x lt own before =
      let at : IsOnClock o (gap_of (task_at node.tasks i)) (shift + (job_at jobs j).arrival) =
      keep j lt own in
      omega (
        arith,
        at.1,
        period_before o (gap_of (task_at node.tasks i)) at.0 x some (omega (arith, at.1)),
      )

  -- and it comes
  pub comes_next : (x j : ℕ) → next_by offset (gap_of (task_at node.tasks i)) x < until + shift
      → j < length jobs → (job_at jobs j).task ≡ i → (job_at jobs j).arrival + shift ≤ x
      → (q : ℕ) × ComesBy jobs shift i x (next_by offset (gap_of (task_at node.tasks i)) x) q
  comes_next x j in_run lt own le =
      elim (cases_lt ((job_at jobs j).arrival + shift) x) [
        | inr at ↦ (
          j,
          record {
            is_job = lt;
            own = own;
            from = at;
            to = omega (arith, next_late offset (gap_of (task_at node.tasks i)) x);
          },
        )
        | inl before ↦
            let c : (k : ℕ) × (q : ℕ) × Crosses node jobs i (x - shift) k q =
            crosses node jobs until i (x - shift) steady
            (λ k is mine less. omega (
              arith,
              gap_before_next offset keeps k x is mine (omega arith),
            ))
            x j lt own (omega arith) (omega arith) in
            let c_before = c.2.before in
            let c_from = c.2.from in
            let c_within = c.2.within in (
              c.1,
              record {
                is_job = c.2.right;
                own = c.2.right_own;
                from = omega arith;
                to = omega (
                  arith,
                  gap_before_next offset keeps c.0 x c.2.left c.2.left_own (omega arith),
                );
              },
            )
      ]

-- ---- ends
-- when what a job of the first task hands on, which arrives at a, is written by the last one; the offsets are the others'
abbrev pub ends_from : Writes → (offsets : List ℕ) → Node → (response : ℕ → ℕ) → (first : ℕ)
    → (others : List ℕ) → (a : ℕ) → ℕ
ends_from writes offsets node response i [] a = a + written_within writes node i (response i)
ends_from writes offsets node response i (c ∷ others) a =
    ends_from writes (drop 1 offsets) node response c others
    (next_by (first_known offsets) (gap_of (task_at node.tasks c))
    (a + handed_within writes node i c (response i)))

-- the end of the walk
walk_ends : (writes : Writes) (node : Node) (response : ℕ → ℕ) (offsets : List ℕ) (i : ℕ)
    (others : List ℕ) (a : ℕ)
    → walk_from (steps_of writes offsets node response others)
    (a + (after_of writes node response i others).time)
    ≡ ends_from writes offsets node response i others a
walk_ends writes node response offsets i [] a =
    ap (λ z. a + z) (last_time writes node response i)
walk_ends writes node response offsets i (c ∷ others) a =
    walk_ends writes node response (drop 1 offsets) c others
    (next_by (first_known offsets) (gap_of (task_at node.tasks c))
    (a + (after_of writes node response i (c ∷ others)).time))
    ∙ ap (λ z. ends_from writes (drop 1 offsets) node response c others
    (next_by (first_known offsets) (gap_of (task_at node.tasks c)) (a + z)))
    (after_time writes node response i c others)

-- so the span from an arrival of the first task
pub span_ends : (writes : Writes) (node : Node) (response : ℕ → ℕ) (offsets : List ℕ) (i : ℕ)
    (others : List ℕ) (t : ℕ)
    → span_from (steps_of writes offsets node response (i ∷ others)) t
    ≡ ends_from writes (drop 1 offsets) node response i others (t + gap_of (task_at node.tasks i)) - t
span_ends writes node response offsets i others t =
    ap (λ z. z - t) (walk_ends writes node response (drop 1 offsets) i others
    (t + gap_of (task_at node.tasks i)))

-- it lies later, for to write takes time
pub ends_late : (writes : Writes) (node : Node) (jobs : List Job) (response : ℕ → ℕ) (offsets : List ℕ)
    (i : ℕ) (others : List ℕ) → AllAct node jobs response i others
    → (a : ℕ) → a < ends_from writes offsets node response i others a
ends_late writes node jobs response offsets i [] acts a =
    omega (arith, write_some writes node i (response i) acts.responds)
ends_late writes node jobs response offsets i (c ∷ others) acts a =
    omega (
      arith,
      next_late (first_known offsets) (gap_of (task_at node.tasks c))
          (a + handed_within writes node i c (response i)),
      ends_late writes node jobs response (drop 1 offsets) c others acts.2
          (next_by (first_known offsets) (gap_of (task_at node.tasks c))
          (a + handed_within writes node i c (response i))),
    )

-- without offsets it lies all gaps and handovers later
pub steady_end : (writes : Writes) (node : Node) (response : ℕ → ℕ) (i : ℕ) (others : List ℕ) (a : ℕ)
    → ends_from writes [] node response i others a ≡ a + delay_of writes node response i others
steady_end writes node response i [] a = refl
steady_end writes node response i (c ∷ others) a =
    omega (
      arith,
      steady_end writes node response c others
          (a + handed_within writes node i c (response i) + gap_of (task_at node.tasks c)),
    )

-- from a job of the first task, that of what its next one hands on lies within the bound
pub span_in_bound : (writes : Writes) (node : Node) (jobs : List Job) (response : ℕ → ℕ) (shift : ℕ)
    (offsets : List ℕ) (first : ℕ) (others : List ℕ) (bound : ℕ)
    → KeepClock node jobs shift offsets (first ∷ others)
    → bound_by (steps_of writes offsets node response (first ∷ others)) ≡ Some bound
    → (j : ℕ) → j < length jobs → (job_at jobs j).task ≡ first
    → ends_from writes (drop 1 offsets) node response first others
    ((job_at jobs j).arrival + shift + gap_of (task_at node.tasks first))
    ≤ (job_at jobs j).arrival + shift + bound
span_in_bound writes node jobs response shift [] first others bound keep is j lt own =
    let a : ℕ = (job_at jobs j).arrival + shift in
    let gap : ℕ = gap_of (task_at node.tasks first) in
    let whole = same_Some (max (span_from (steps_of writes [] node response (first ∷ others)) 0) 0)
    bound is in
    omega (
      arith,
      whole,
      le-max_left (span_from (steps_of writes [] node response (first ∷ others)) 0) 0,
      span_ends writes node response [] first others 0,
      steady_end writes node response first others (0 + gap),
      steady_end writes node response first others (a + gap),
    )
span_in_bound writes node jobs response shift (offset ∷ offsets) first others bound keep is j lt own =
    let a : ℕ = (job_at jobs j).arrival + shift in
    let gap : ℕ = gap_of (task_at node.tasks first) in
    let at : IsOnClock offset gap (shift + (job_at jobs j).arrival) = keep.0 j lt own in
    let same : offset + at.0 * gap ≡ a = omega (arith, at.1) in
    let within : span_from (steps_of writes (offset ∷ offsets) node response (first ∷ others))
    (offset + at.0 * gap)
    ≤ bound =
    span_within_bound gap offset (after_of writes node response first others).time
    (steps_of writes offsets node response others) bound at.0 is in
    omega (
      arith,
      within,
      ap (λ z. span_from (steps_of writes (offset ∷ offsets) node response (first ∷ others)) z) same,
      span_ends writes node response (offset ∷ offsets) first others a,
    )
