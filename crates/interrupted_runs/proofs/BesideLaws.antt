-- The tick rule beside timers and interrupts is a machine of the kind of which the busy interval speaks: what comes in a tick
-- is one more job, of a higher level than all.
use Rattle.std.proofs.Common.{ℕ, suc, ◌+◌, ◌-◌, ◌<◌, ◌≤◌, ◌≡◌, ◌≢◌, ◌⊎◌, inl, inr, refl, sym, ap, arith}
use Rattle.std.proofs.Common.{if◌then◌else◌, Bool, true, false, min, Option, Some, None, unwrap_or}
use Rattle.std.proofs.Common.{List, length, nat_le, nat_lt, eqb, ◌∙◌}
use Rattle.std.proofs.lemmas.Bool.{cases_eq, cases_lt, cases_Bool, lt-ltb, le-ltb, le-leb, lt-leb}
use Rattle.std.proofs.lemmas.Bool.{leb-true, ltb-true, and_parts, and_from, eq-eqb, ne_eqb, true≢false}
use Rattle.ceiling_kernel.specs.Tick.{Node, Job, job_at, level_of_job, is_pending, active_of}
use Rattle.ceiling_kernel.specs.Tick.{held_ceiling, one_more, pick}
use Rattle.ceiling_kernel.proofs.PickLaws.{IsBest, best_some, best_exists}
use Rattle.ceiling_kernel.proofs.BehaviourLaws.{HasSpans}
use Rattle.ceiling_kernel.proofs.SectionLaws.{stretch, stretch_held, stretch_from, stretch_next}
use Rattle.ceiling_kernel.proofs.MachineLaws.{is_high, rest_at, within_span, before_end}
use Rattle.ceiling_kernel.proofs.Busy.{IsMachine}
use Rattle.interrupted_runs.specs.Interrupted.{come_before, taken_before, is_taken}
unfoldable use Rattle.interrupted_runs.specs.Interrupted.{executed_beside}
use Rattle.interrupted_runs.proofs.ComeLaws.{come_grows, taken_more, taken_stays, taken_first}
use Rattle.interrupted_runs.proofs.ComeLaws.{IsSince, since, since_is}

module _ (comes : ℕ → ℕ) (node : Node) (jobs : List Job) where
  abbrev pub beside : ℕ → ℕ → ℕ
  beside t j = executed_beside comes node jobs t j

  -- whom the tick rule picks
  abbrev pub ruled : ℕ → Option ℕ
  ruled t = pick node jobs (executed_beside comes node jobs t) t

  pub beside_first : (j : ℕ) → beside 0 j ≡ 0
  unfolding executed_beside
  beside_first j = refl

  pub beside_taken : (t j : ℕ) → is_taken comes t ≡ true → beside (suc t) j ≡ beside t j
  unfolding executed_beside
  beside_taken t j is = rw is

  pub beside_ruled : (t j : ℕ) → is_taken comes t ≡ false
      → beside (suc t) j ≡ one_more (ruled t) (executed_beside comes node jobs t) j
  unfolding executed_beside
  beside_ruled t j not = rw not

  -- ---- jobs, and what comes in each tick as one more
  abbrev pub count : ℕ
  count = length jobs

  abbrev pub of_either : {X : Type 0} → (job piece : ℕ → X) → ℕ → X
  of_either job piece j = if nat_lt j count then job j else piece (j - count)

  pub of_job : {X : Type 0} → (job piece : ℕ → X) → (j : ℕ) → j < count
      → of_either job piece j ≡ job j
  of_job job piece j lt = rw (lt-ltb j count lt)

  pub of_piece : {X : Type 0} → (job piece : ℕ → X) → (s : ℕ) → of_either job piece (count + s) ≡ piece s
  of_piece job piece s =
      let same : count + s - count ≡ s = omega arith in
      rw (le-ltb (count + s) count (omega arith), same)

  -- how much is done of what comes in tick s
  abbrev pub done_of : (t s : ℕ) → ℕ
  done_of t s = min (comes s) (taken_before comes t - come_before comes s)

  -- the tick in which the piece has come that a taken tick is of
  abbrev pub source : ℕ → ℕ
  source t = since comes (taken_before comes t) t

  pub source_is : (t : ℕ) → is_taken comes t ≡ true → IsSince comes (taken_before comes t) t (source t)
  source_is t is = since_is comes (taken_before comes t) t
      (ltb-true (taken_before comes t) (come_before comes (suc t)) is)

  abbrev pub ready_of : ℕ → ℕ
  ready_of = of_either (λ j. (job_at jobs j).ready) (λ s. s)

  abbrev pub cost_of : ℕ → ℕ
  cost_of = of_either (λ j. (job_at jobs j).executes) comes

  abbrev pub done : ℕ → ℕ → ℕ
  done t = of_either (executed_beside comes node jobs t) (done_of t)

  abbrev pub ran : ℕ → Option ℕ
  ran t = if is_taken comes t then Some (count + source t) else ruled t

  -- ---- a tick
  pub ran_cases : (t p : ℕ) → ran t ≡ Some p → ((is_taken comes t ≡ true) × (p ≡ count + source t))
      ⊎ ((is_taken comes t ≡ false) × (ruled t ≡ Some p))
  ran_cases t p e =
      elim (cases_Bool (is_taken comes t)) [
        | inl is ↦
            let same : Some (count + source t) ≡ Some p = rw is at e in
            inl (is, sym (ap (λ o. unwrap_or o 0) same))
        | inr not ↦ inr (not, rw not at e)
      ]

  ran_none : (t : ℕ) → ran t ≡ None → (is_taken comes t ≡ false) × (ruled t ≡ None)
  ran_none t e =
      elim (cases_Bool (is_taken comes t)) [
        | inl is ↦ (let never : Some (count + source t) ≡ None = rw is at e in cc)
        | inr not ↦ (not, rw not at e)
      ]

  -- the state of a job, or of a piece
  job_done : (t j : ℕ) → j < count → done t j ≡ beside t j
  job_done t j lt = of_job (executed_beside comes node jobs t) (done_of t) j lt

  piece_done : (t s : ℕ) → done t (count + s) ≡ done_of t s
  piece_done t s = of_piece (executed_beside comes node jobs t) (done_of t) s

  abbrev IsPick : ℕ → ℕ → Type 0
  IsPick t p = IsBest (is_pending jobs (executed_beside comes node jobs t) t)
      (active_of node jobs (executed_beside comes node jobs t)) (level_of_job node jobs) count p

  ruled_is : (t p : ℕ) → ruled t ≡ Some p → IsPick t p
  ruled_is t p e = best_some (is_pending jobs (executed_beside comes node jobs t) t)
      (active_of node jobs (executed_beside comes node jobs t)) (level_of_job node jobs) count p e

  pending_from : (t k : ℕ) → (job_at jobs k).ready ≤ t → beside t k < (job_at jobs k).executes
      → is_pending jobs (executed_beside comes node jobs t) t k ≡ true
  pending_from t k r c = and_from (nat_le (job_at jobs k).ready t)
      (nat_lt (beside t k) (job_at jobs k).executes) (le-leb (job_at jobs k).ready t r)
      (lt-ltb (beside t k) (job_at jobs k).executes c)

  pending_parts : (t k : ℕ) → is_pending jobs (executed_beside comes node jobs t) t k ≡ true
      → ((job_at jobs k).ready ≤ t) × (beside t k < (job_at jobs k).executes)
  pending_parts t k h =
      let p = and_parts (nat_le (job_at jobs k).ready t) (nat_lt (beside t k) (job_at jobs k).executes) h in
      (leb-true (job_at jobs k).ready t p.0, ltb-true (beside t k) (job_at jobs k).executes p.1)

  -- what the tick rule picks is open; and it picks one where one is
  pub ruled_parts : (t p : ℕ) → ruled t ≡ Some p → (p < count) × ((job_at jobs p).ready ≤ t)
      × (beside t p < (job_at jobs p).executes)
  ruled_parts t p e =
      let is = ruled_is t p e in
      let open_ = pending_parts t p is.is_pending in
      (is.below, open_.0, open_.1)

  pub ruled_works : (t k : ℕ) → k < count → (job_at jobs k).ready ≤ t → beside t k < (job_at jobs k).executes
      → (p : ℕ) × (ruled t ≡ Some p)
  ruled_works t k lt r c = best_exists (is_pending jobs (executed_beside comes node jobs t) t)
      (active_of node jobs (executed_beside comes node jobs t)) (level_of_job node jobs) count k lt
      (pending_from t k r c)

  -- a place is a job's, or a piece's
  places : (j : ℕ) → (j < count) ⊎ ((s : ℕ) × (j ≡ count + s))
  places j = elim (cases_lt j count) [
    | inl lt ↦ inl lt
    | inr past ↦ inr (j - count, omega arith)
  ]

  -- an open piece takes the tick
  open_takes : (t s : ℕ) → s ≤ t → done_of t s < comes s → is_taken comes t ≡ true
  open_takes t s le open_ = lt-ltb (taken_before comes t) (come_before comes (suc t))
      (omega (arith, come_grows comes (suc s) (suc t) (omega arith)))

  -- ---- the fields of a machine
  done_first : (j : ℕ) → done 0 j ≡ 0
  done_first j = elim (places j) [
    | inl lt ↦ omega (arith, job_done 0 j lt, beside_first j)
    | inr piece ↦ rw piece.1 (omega (arith, piece_done 0 piece.0, taken_first comes))
  ]

  job_stays : (t j : ℕ) → j < count → beside (suc t) j ≡ beside t j → done (suc t) j ≡ done t j
  job_stays t j lt same = omega (arith, job_done t j lt, job_done (suc t) j lt, same)

  piece_stays : (t s : ℕ) → done_of (suc t) s ≡ done_of t s → done (suc t) (count + s) ≡ done t (count + s)
  piece_stays t s same = omega (arith, piece_done t s, piece_done (suc t) s, same)

  when_idle : (t j : ℕ) → ran t ≡ None → done (suc t) j ≡ done t j
  when_idle t j e =
      let none = ran_none t e in
      elim (places j) [
        | inl lt ↦ job_stays t j lt (rw (beside_ruled t j none.0, none.1))
        | inr piece ↦ rw piece.1 (piece_stays t piece.0 (rw (taken_stays comes t none.0)))
      ]

  of_picked : (t p : ℕ) → ran t ≡ Some p → done (suc t) p ≡ suc (done t p)
  of_picked t p e = elim (ran_cases t p e) [
    | inl taken ↦
        let is = source_is t taken.0 in
        let more = taken_more comes t taken.0 in
        rw taken.1 (omega (
          arith,
          piece_done t (source t),
          piece_done (suc t) (source t),
          more,
          is.from,
          is.to,
        ))
    | inr open_ ↦
        let lt = (ruled_is t p open_.1).below in
        let own : beside (suc t) p ≡ suc (beside t p) =
        rw (beside_ruled t p open_.0, open_.1, eq-eqb p p refl) (omega arith) in
        omega (arith, job_done t p lt, job_done (suc t) p lt, own)
  ]

  -- another piece than the one that a tick is of is done, or isn't begun
  other_piece : (t s : ℕ) → is_taken comes t ≡ true → s ≢ source t → done_of (suc t) s ≡ done_of t s
  other_piece t s is ne =
      let more = taken_more comes t is in
      let at = source_is t is in
      elim (cases_lt s (source t)) [
        | inl before ↦ omega (
          arith,
          more,
          at.from,
          come_grows comes (suc s) (source t) before,
        )
        | inr behind ↦ omega (
          arith,
          more,
          at.to,
          come_grows comes (suc (source t)) s (omega arith),
        )
      ]

  of_other : (t p j : ℕ) → ran t ≡ Some p → j ≢ p → done (suc t) j ≡ done t j
  of_other t p j e ne = elim (ran_cases t p e) [
    | inl taken ↦ elim (places j) [
      | inl lt ↦ job_stays t j lt (beside_taken t j taken.0)
      | inr piece ↦ rw piece.1 (piece_stays t piece.0 (other_piece t piece.0 taken.0
          (λ same. ne (omega (arith, piece.1, taken.1, same)))))
    ]
    | inr open_ ↦ elim (places j) [
      | inl lt ↦
          let differ : eqb p j ≡ false = ne_eqb p j (λ same. ne (sym same)) in
          job_stays t j lt (rw (beside_ruled t j open_.0, open_.1, differ))
      | inr piece ↦ rw piece.1 (piece_stays t piece.0 (rw (taken_stays comes t open_.0)))
    ]
  ]

  picked_ready : (t p : ℕ) → ran t ≡ Some p → ready_of p ≤ t
  picked_ready t p e = elim (ran_cases t p e) [
    | inl taken ↦ rw taken.1 (omega (
      arith,
      of_piece (λ j. (job_at jobs j).ready) (λ s. s) (source t),
      (source_is t taken.0).by,
    ))
    | inr open_ ↦
        let is = ruled_is t p open_.1 in
        omega (
          arith,
          of_job (λ j. (job_at jobs j).ready) (λ s. s) p is.below,
          (pending_parts t p is.is_pending).0,
        )
  ]

  picked_unfinished : (t p : ℕ) → ran t ≡ Some p → done t p < cost_of p
  picked_unfinished t p e = elim (ran_cases t p e) [
    | inl taken ↦
        let is = source_is t taken.0 in
        rw taken.1 (omega (
          arith,
          of_piece (λ j. (job_at jobs j).executes) comes (source t),
          piece_done t (source t),
          is.from,
          is.to,
        ))
    | inr open_ ↦
        let is = ruled_is t p open_.1 in
        omega (
          arith,
          of_job (λ j. (job_at jobs j).executes) comes p is.below,
          job_done t p is.below,
          (pending_parts t p is.is_pending).1,
        )
  ]

  -- where tick t isn't taken, what is pending is a job
  pending_job : (t k : ℕ) → ready_of k ≤ t → done t k < cost_of k → (is_taken comes t ≡ true)
      ⊎ ((k < count) × (is_pending jobs (executed_beside comes node jobs t) t k ≡ true))
  pending_job t k r c = elim (places k) [
    | inl lt ↦ inr (
      lt,
      pending_from t k
          (omega (arith, r, of_job (λ j. (job_at jobs j).ready) (λ s. s) k lt))
          (omega (arith, c, of_job (λ j. (job_at jobs j).executes) comes k lt, job_done t k lt)),
    )
    | inr piece ↦
        let s = piece.0 in
        let ready = of_piece (λ j. (job_at jobs j).ready) (λ s. s) s in
        let cost = of_piece (λ j. (job_at jobs j).executes) comes s in
        let r' : ready_of (count + s) ≤ t = rw piece.1 at r in
        let c' : done t (count + s) < cost_of (count + s) = rw piece.1 at c in
        inl (open_takes t s (omega arith) (omega (arith, piece_done t s)))
  ]

  works : (t k : ℕ) → ready_of k ≤ t → done t k < cost_of k → (p : ℕ) × (ran t ≡ Some p)
  works t k r c =
      elim (cases_Bool (is_taken comes t)) [
        | inl is ↦ (count + source t, rw is)
        | inr not ↦ elim (pending_job t k r c) [
          | inl is ↦ (count + source t, rw is)
          | inr job ↦
              let found = best_exists (is_pending jobs (executed_beside comes node jobs t) t)
              (active_of node jobs (executed_beside comes node jobs t)) (level_of_job node jobs) count k
              job.0 job.1 in
              (found.0, rw not found.1)
        ]
      ]

  module _ (level : ℕ) (some : 0 < level) (spanned : (j : ℕ) → HasSpans node jobs j) where
    abbrev pub high : ℕ → Bool
    high = of_either (is_high node jobs level some spanned) (λ s. true)

    abbrev pub rest : ℕ → ℕ → ℕ
    rest j e = of_either (λ k. rest_at node jobs level some spanned k e) (λ s. 0) j

    job_high : (j : ℕ) → j < count → high j ≡ is_high node jobs level some spanned j
    job_high j lt = of_job (is_high node jobs level some spanned) (λ s. true) j lt

    piece_high : (s : ℕ) → high (count + s) ≡ true
    piece_high s = of_piece (is_high node jobs level some spanned) (λ s. true) s

    job_rest : (j e : ℕ) → j < count → rest j e ≡ rest_at node jobs level some spanned j e
    job_rest j e lt = of_job (λ k. rest_at node jobs level some spanned k e) (λ s. 0) j lt

    piece_rest : (s e : ℕ) → rest (count + s) e ≡ 0
    piece_rest s e = of_piece (λ k. rest_at node jobs level some spanned k e) (λ s. 0) s

    -- a low job inside a reaching section
    low_rest : (j e : ℕ) → 0 < rest_at node jobs level some spanned j e
        → (is_high node jobs level some spanned j ≡ false)
        × (0 < stretch node level (job_at jobs j).sections ((job_at jobs j).executes - e) e)
    low_rest j e h =
        elim (cases_Bool (is_high node jobs level some spanned j)) [
          | inl is ↦ (let none : 0 < 0 = rw is at h in absurd (omega arith))
          | inr not ↦ (not, rw not at h)
        ]

    -- a job is high or inside a reaching section exactly where its active priority is at least the level
    hot_from_active : (executed : ℕ → ℕ) (j : ℕ) → level ≤ active_of node jobs executed j
        → (is_high node jobs level some spanned j ≡ true)
        ⊎ (0 < rest_at node jobs level some spanned j (executed j))
    hot_from_active executed j h =
        elim (cases_lt (level_of_job node jobs j) level) [
          | inr ge ↦ inl (le-leb level (level_of_job node jobs j) ge)
          | inl low ↦
              let held : level ≤ held_ceiling node (job_at jobs j).sections (executed j) = omega arith in
              let open_ = before_end node jobs level some spanned j (executed j) held in
              let left = stretch_from node level (job_at jobs j).sections
              ((job_at jobs j).executes - executed j) (executed j) (omega arith) held in
              inr (rw (lt-leb level (level_of_job node jobs j) low) left)
        ]

    active_from_hot : (executed : ℕ → ℕ) (j : ℕ) → (is_high node jobs level some spanned j ≡ true)
        ⊎ (0 < rest_at node jobs level some spanned j (executed j))
        → level ≤ active_of node jobs executed j
    active_from_hot executed j h =
        elim h [
          | inl is ↦ omega (arith, leb-true level (level_of_job node jobs j) is)
          | inr left ↦ omega (
            arith,
            stretch_held node level (job_at jobs j).sections ((job_at jobs j).executes - executed j)
                (executed j) (low_rest j (executed j) left).1,
          )
        ]

    -- the same of a job among jobs and pieces
    hot_job : (t j : ℕ) → j < count → (high j ≡ true) ⊎ (0 < rest j (done t j))
        → (is_high node jobs level some spanned j ≡ true)
        ⊎ (0 < rest_at node jobs level some spanned j (beside t j))
    hot_job t j lt h =
        elim h [
          | inl is ↦ inl (sym (job_high j lt) ∙ is)
          | inr left ↦
              let same : rest j (done t j) ≡ rest j (beside t j) = ap (rest j) (job_done t j lt) in
              inr (omega (arith, same, job_rest j (beside t j) lt))
        ]

    hot_among : (t j : ℕ) → j < count → (is_high node jobs level some spanned j ≡ true)
        ⊎ (0 < rest_at node jobs level some spanned j (beside t j))
        → (high j ≡ true) ⊎ (0 < rest j (done t j))
    hot_among t j lt h =
        elim h [
          | inl is ↦ inl (job_high j lt ∙ is)
          | inr left ↦
              let same : rest j (done t j) ≡ rest j (beside t j) = ap (rest j) (job_done t j lt) in
              inr (omega (arith, same, job_rest j (beside t j) lt))
        ]

    hot_first : (t p k : ℕ) → ran t ≡ Some p → ready_of k ≤ t → done t k < cost_of k
        → (high k ≡ true) ⊎ (0 < rest k (done t k)) → (high p ≡ true) ⊎ (0 < rest p (done t p))
    hot_first t p k e r c hot = elim (ran_cases t p e) [
      | inl taken ↦ inl (ap high taken.1 ∙ piece_high (source t))
      | inr open_ ↦ elim (pending_job t k r c) [
        | inl is ↦ absurd (true≢false (sym is ∙ open_.0))
        | inr job ↦
            let is = ruled_is t p open_.1 in
            let at_least = active_from_hot (executed_beside comes node jobs t) k (hot_job t k job.0 hot) in
            hot_among t p is.below (hot_from_active (executed_beside comes node jobs t) p
            (elim (is.first k job.0 job.1) [
              | inl less ↦ omega arith
              | inr tied ↦ omega arith
            ]))
      ]
    ]

    -- what is left of a section
    rest_low : (j e : ℕ) → high j ≡ true → rest j e ≡ 0
    rest_low j e is = elim (places j) [
      | inl lt ↦
          let own : is_high node jobs level some spanned j ≡ true = sym (job_high j lt) ∙ is in
          let none : rest_at node jobs level some spanned j e ≡ 0 = rw own in
          omega (arith, job_rest j e lt)
      | inr piece ↦ rw piece.1 (piece_rest piece.0 e)
    ]

    -- that of a job
    some_rest : (j e : ℕ) → 0 < rest j e → (j < count) × (0 < rest_at node jobs level some spanned j e)
    some_rest j e h = elim (places j) [
      | inl lt ↦ (lt, omega (arith, job_rest j e lt))
      | inr piece ↦
          let some_left : 0 < rest (count + piece.0) e = rw piece.1 at h in
          absurd (omega (arith, piece_rest piece.0 e))
    ]

    rest_first : (j : ℕ) → rest j 0 ≡ 0
    rest_first j =
        elim (cases_eq (rest j 0) 0) [
          | inl none ↦ none
          | inr left ↦
              let own = some_rest j 0 (omega arith) in
              let low = low_rest j 0 own.1 in
              absurd (omega (arith, (within_span node jobs level some spanned j 0 low.1).1))
        ]

    rest_next : (j e : ℕ) → 0 < rest j e → rest j e ≡ suc (rest j (suc e))
    rest_next j e h =
        let own = some_rest j e h in
        let low = low_rest j e own.1 in
        let next : rest_at node jobs level some spanned j e ≡ suc (rest_at node jobs level some spanned j (suc e)) =
        rw low.0 (stretch_next node level (job_at jobs j).sections (job_at jobs j).executes e
        (within_span node jobs level some spanned j e low.1).2 low.1) in
        omega (arith, job_rest j e own.0, job_rest j (suc e) own.0)

    rest_inside : (j e : ℕ) → 0 < rest j e → e < cost_of j
    rest_inside j e h =
        let own = some_rest j e h in
        omega (
          arith,
          (within_span node jobs level some spanned j e (low_rest j e own.1).1).2,
          of_job (λ j. (job_at jobs j).executes) comes j own.0,
        )

    -- where nothing comes from tick `last` on
    pub machine : (last : ℕ) → ((s : ℕ) → last ≤ s → comes s ≡ 0)
        → IsMachine (count + last) ready_of cost_of high rest done ran
    machine last none_later = record {
      at_start = done_first;
      when_idle = when_idle;
      of_picked = of_picked;
      of_other = of_other;
      picked_exists = λ t p e. elim (ran_cases t p e) [
        | inl taken ↦
            let is = source_is t taken.0 in
            elim (cases_lt (source t) last) [
              | inl lt ↦ omega (arith, taken.1)
              | inr past ↦ absurd (omega (arith, none_later (source t) past, is.from, is.to))
            ]
        | inr open_ ↦ omega (arith, (ruled_is t p open_.1).below)
      ];
      picked_ready = picked_ready;
      picked_unfinished = picked_unfinished;
      works = λ t k lt r c. works t k r c;
      hot_first = λ t p k e lt r c hot. hot_first t p k e r c hot;
      rest_low = rest_low;
      rest_first = rest_first;
      rest_next = rest_next;
      rest_inside = rest_inside;
    }
