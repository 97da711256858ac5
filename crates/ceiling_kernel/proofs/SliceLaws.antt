-- The slices are the longest runs of ticks of one job.
use Rattle.std.proofs.Common.{ℕ, zero, suc, ◌+◌, ◌<◌, ◌≤◌, ◌≡◌, ◌≢◌, inl, inr, refl, sym, ap, ◌∙◌}
use Rattle.std.proofs.Common.{subst, arith, Bool, true, ◌==◌, ◌&&◌, List, [], ◌∷◌, ◌++◌, Option}
use Rattle.std.proofs.Common.{Some, None, reverse}
use Rattle.std.proofs.lemmas.Option.{none-some, same_Some}
use Rattle.std.proofs.lemmas.Bool.{cases_Bool, cases_eq, cases_lt, true≢false, and_parts, eqb-true}
use Rattle.std.proofs.lemmas.Bool.{eq-eqb}
use Rattle.std.proofs.lemmas.List.{append_assoc, append-nil}
use Rattle.std.proofs.lemmas.Grind.{reverse_onto}
use Rattle.ceiling_kernel.specs.declared.trace.Slice.{Slice}
use Rattle.ceiling_kernel.proofs.Common.{Node, Job, picked, slices_before, AreLongestRuns}
use Rattle.ceiling_kernel.specs.Trace.{with_run, with_tick, slices_of}

module _ (run : ℕ → Option ℕ) where
  -- where the newest of some older slices ends at a time, its job isn't this one
  abbrev Differs : List Slice → ℕ → ℕ → Type 0
  Differs [] start job = Unit {0}
  Differs (s ∷ ss) start job = s.stop ≡ start → s.job ≢ job

  -- the slices below t, the newest first
  abbrev Runs : ℕ → List Slice → Type 0
  Runs t [] = (u : ℕ) → u < t → run u ≡ None
  Runs t (s ∷ ss) =
      (s.start < s.stop) × (s.stop ≤ t) × ((u : ℕ) → s.start ≤ u → u < s.stop → run u ≡ Some s.job)
      × ((u : ℕ) → s.stop ≤ u → u < t → run u ≡ None)
      × Differs ss s.start s.job × Runs s.start ss

  idle : (t : ℕ) (ss : List Slice) → run t ≡ None → Runs t ss → Runs (suc t) ss
  idle t [] none h = λ u lt. elim (cases_eq u t) [
    | inl e ↦ ap run e ∙ none
    | inr ne ↦ h u (omega arith)
  ]
  idle t (s ∷ ss) none h = (
    h.0,
    omega (arith, h.1),
    h.2,
    λ u le lt.
        elim (cases_eq u t) [ inl e ↦ ap run e ∙ none | inr ne ↦ h.3 u le (omega arith) ],
    h.4,
    h.5,
  )

  one_tick : (t job u : ℕ) → run t ≡ Some job → t ≤ u → u < t + 1 → run u ≡ Some job
  one_tick t job u e lo hi = (let same : u ≡ t = omega arith in ap run same ∙ e)

  busy : (t job : ℕ) (ss : List Slice) → run t ≡ Some job → Runs t ss
      → Runs (suc t) (with_run ss job t (t + 1))
  busy t job [] e h = (
    omega arith,
    omega arith,
    λ u lo hi. one_tick t job u e lo hi,
    λ u lo hi.
        absurd (omega arith),
    tt,
    h,
  )
  busy t job (s ∷ ss) e h =
      elim (cases_Bool ((s.job == job) && (s.stop == t))) [
        | inl joins ↦
            let p = and_parts (s.job == job) (s.stop == t) joins in
            let same_job : s.job ≡ job = eqb-true s.job job p.0 in
            let same_stop : s.stop ≡ t = eqb-true s.stop t p.1 in
            rw joins (
              omega (arith, h.0),
              omega arith,
              λ u lo hi. elim (cases_lt u s.stop) [
                | inl before ↦ h.2 u lo before ∙ ap Some same_job
                | inr at_t ↦ one_tick t job u e (omega arith) hi
              ],
              λ u lo hi. absurd (omega arith),
              subst (λ x. Differs ss s.start x) same_job h.4,
              h.5,
            )
        | inr apart ↦
            rw apart (
              omega arith,
              omega arith,
              λ u lo hi. one_tick t job u e lo hi,
              λ u lo hi. absurd (omega arith),
              λ stops same. true≢false (sym (and_both (s.job == job) (s.stop == t)
                  (eq-eqb s.job job same) (eq-eqb s.stop t stops)) ∙ apart),
              h,
            )
      ]
    where
      and_both : (a b : Bool) → a ≡ true → b ≡ true → (a && b) ≡ true
      and_both a b x y = rw (x, y)

  slices_step : (t : ℕ) → slices_before run (suc t) ≡ with_tick (slices_before run t) t (run t)
  unfolding slices_before
  slices_step t = refl

  slices_start : slices_before run 0 ≡ []
  unfolding slices_before
  slices_start = refl

  runs_before : (t : ℕ) → Runs t (slices_before run t)
  runs_before zero = rw slices_start (λ u lt. absurd (omega arith))
  runs_before (suc t) =
      elim (run t) as (λ o. run t ≡ o → Runs (suc t) (slices_before run (suc t))) [
        | None ↦ λ e. subst (Runs (suc t))
            (sym (slices_step t ∙ ap (with_tick (slices_before run t) t) e))
            (idle t (slices_before run t) e (runs_before t))
        | Some job ↦ λ e. subst (Runs (suc t))
            (sym (slices_step t ∙ ap (with_tick (slices_before run t) t) e))
            (busy t job (slices_before run t) e (runs_before t))
      ] refl

  -- from an earlier time on, where no tick between picks a job
  earlier : (from since until : ℕ) (ss : List Slice) → from ≤ since
      → ((u : ℕ) → from ≤ u → u < since → run u ≡ None) → AreLongestRuns run since until ss
      → AreLongestRuns run from until ss
  earlier from since until [] le none h = λ u lo hi.
      elim (cases_lt u since) [ inl before ↦ none u lo before | inr after ↦ h u after hi ]
  earlier from since until (s ∷ ss) le none h = (
    omega (arith, h.0),
    h.1,
    h.2,
    λ u lo hi. elim (cases_lt u since) [
      | inl before ↦
          none u lo before
      | inr after ↦ h.3 u after hi
    ],
    h.4,
    h.5,
    h.6,
  )

  -- the slices before a time and those after it, by time
  joined : (t until : ℕ) (ss after : List Slice) → t ≤ until → Runs t ss
      → AreLongestRuns run t until after
      → (t < until → (job : ℕ) → run t ≡ Some job → Differs ss t job)
      → AreLongestRuns run 0 until (reverse ss ++ after)
  joined t until [] after le h rest meets =
      earlier 0 t until after (omega arith) (λ u lo hi. h u hi) rest
  joined t until (s ∷ ss) after le h rest meets =
      let behind = earlier s.stop t until after (h.1) (λ u lo hi. h.3 u lo hi) rest in
      let mine : AreLongestRuns run s.start until (s ∷ after) = (
        omega arith,
        h.0,
        omega (arith, h.1),
        λ u lo hi. absurd (omega arith),
        h.2,
        λ inside same. elim (cases_lt s.stop t) [
          | inl gap ↦ none-some s.job (sym (h.3 s.stop (omega arith) gap) ∙ same)
          | inr ends ↦
              let e : s.stop ≡ t = omega (arith, h.1) in
              meets (omega arith) s.job (ap run (sym e) ∙ same) e refl
        ],
        behind,
      ) in
      let all = joined s.start until ss (s ∷ after) (omega (arith, h.0, h.1)) h.5 mine
      (λ lt job e. (let first : run s.start ≡ Some s.job = h.2 s.start (omega arith) h.0 in
      subst (λ j. Differs ss s.start j) (sym (same_Some job s.job (sym e ∙ first))) h.4)) in
      subst (AreLongestRuns run 0 until) (sym (turn ss s after)) all
    where
      turn : (ss : List Slice) (s : Slice) (after : List Slice)
          → reverse (s ∷ ss) ++ after ≡ reverse ss ++ (s ∷ after)
      turn ss s after = ap (λ x. x ++ after) (reverse_onto ss s [])
          ∙ append_assoc (reverse ss) (s ∷ []) after

pub longest_runs : (node : Node) (jobs : List Job) (until : ℕ)
    → AreLongestRuns (picked node jobs) 0 until (slices_of node jobs until)
longest_runs node jobs until =
    subst (AreLongestRuns (picked node jobs) 0 until)
    (append-nil (reverse (slices_before (picked node jobs) until)))
    (joined (picked node jobs) until until (slices_before (picked node jobs) until) [] (omega arith)
    (runs_before (picked node jobs) until) (λ u lo hi. absurd (omega arith))
    (λ lt job e. absurd (omega arith)))
