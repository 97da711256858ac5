-- Each tick lies in one piece.
use Rattle.std.proofs.Common.{◌≡◌, ◌⊎◌, inl, inr, ℕ, ◌-◌, ◌<◌, ◌≤◌, List, [], ◌∷◌, Option}
use Rattle.std.proofs.Common.{Some, None, true, false, nat_lt, min, max, refl, sym, ◌∙◌}
use Rattle.std.proofs.Common.{arith}
use Rattle.std.specs.Option.{unwrap_or}
use Rattle.std.proofs.lemmas.Bool.{cases_Bool, cases_lt}
use Rattle.std.proofs.lemmas.Option.{none-some}
use Rattle.ceiling_kernel.specs.declared.trace.Slice.{Slice}
use Rattle.ceiling_kernel.specs.Tick.{Node, Job, job_at, executed_before, picked}
use Rattle.ceiling_kernel.specs.Trace.{slices_of, finish_before}
use Rattle.ceiling_kernel.specs.Readings.{AreLongestRuns}
use Rattle.ceiling_kernel.proofs.FinishLaws.{done_grows, finish_is, unfinished_is}
use Rattle.ceiling_kernel.proofs.MachineLaws.{works_of}
use Rattle.ceiling_kernel.proofs.SliceLaws.{longest_runs}
use Rattle.pieces.specs.Pieces.{clipped, pieces_of}
use Rattle.pieces.specs.Laws.{CoverOnce, holds, holding, end_of}

-- ---- clipping
holds_within : (from to t : ℕ) (s : Slice) → from ≤ t → t < to
    → holds t (clipped from to s) ≡ holds t s
holds_within from to t s lo hi = grind (arith, lo, hi)

holds_some : (from to t : ℕ) (s : Slice) → from ≤ t → t < to
    → nat_lt (max s.start from) (min s.stop to) ≡ false → holds t s ≡ false
holds_some from to t s lo hi h = grind (arith, lo, hi, h)

holds_outside : (from to t : ℕ) (s : Slice) → (t < from) ⊎ (to ≤ t)
    → holds t (clipped from to s) ≡ false
holds_outside from to t s (inl lt) = grind (arith, lt)
holds_outside from to t s (inr le) = grind (arith, le)

within : (from to t : ℕ) (slices : List Slice) → from ≤ t → t < to
    → holding t (pieces_of from to slices) ≡ holding t slices
within from to t [] lo hi = refl
within from to t (s ∷ slices) lo hi =
    let rest = within from to t slices lo hi in
    elim (cases_Bool (nat_lt (max s.start from) (min s.stop to))) [
      | inl h ↦ rw (h, holds_within from to t s lo hi, rest) refl
      | inr h ↦ rw (h, holds_some from to t s lo hi h) rest
    ]

outside : (from to t : ℕ) (slices : List Slice) → (t < from) ⊎ (to ≤ t)
    → holding t (pieces_of from to slices) ≡ 0
outside from to t [] out = refl
outside from to t (s ∷ slices) out =
    let rest = outside from to t slices out in
    elim (cases_Bool (nat_lt (max s.start from) (min s.stop to))) [
      | inl h ↦ rw (h, holds_outside from to t s out) rest
      | inr h ↦ rw h rest
    ]

-- ---- slices
holds_later : (t : ℕ) (s : Slice) → t < s.start → holds t s ≡ false
holds_later t s lt = grind (arith, lt)

holds_earlier : (t : ℕ) (s : Slice) → s.stop ≤ t → holds t s ≡ false
holds_earlier t s le = grind (arith, le)

holds_now : (t : ℕ) (s : Slice) → s.start ≤ t → t < s.stop → holds t s ≡ true
holds_now t s lo hi = grind (arith, lo, hi)

-- no slice from a time on holds an earlier tick
none_before : (run : ℕ → Option ℕ) (from until t : ℕ) (slices : List Slice)
    → AreLongestRuns run from until slices → t < from → holding t slices ≡ 0
none_before run from until t [] runs lt = refl
none_before run from until t (s ∷ slices) runs lt =
    rw (holds_later t s (omega (arith, lt, runs.0)))
    (none_before run s.stop until t slices runs.6 (omega (arith, lt, runs.0, runs.1)))

-- one slice holds a tick that picks a job
one_of : (run : ℕ → Option ℕ) (from until t p : ℕ) (slices : List Slice) → AreLongestRuns run from
    until slices → from ≤ t → t < until → run t ≡ Some p → holding t slices ≡ 1
one_of run from until t p [] runs lo hi picks = absurd (none-some p (sym (runs t lo hi) ∙ picks))
one_of run from until t p (s ∷ slices) runs lo hi picks = elim (cases_lt t s.start) [
  | inl before ↦ absurd (none-some p (sym (runs.3 t lo before) ∙ picks))
  | inr begun ↦ elim (cases_lt t s.stop) [
    | inl during ↦ rw (holds_now t s begun during)
        (rw (none_before run s.stop until t slices runs.6 during) refl)
    | inr behind ↦ rw (holds_earlier t s behind)
        (one_of run s.stop until t p slices runs.6 behind hi picks)
  ]
]

-- ---- jobs
-- a job lacks some of its ticks up to its finish
lacks : (node : Node) (jobs : List Job) (until j t : ℕ) → 0 < (job_at jobs j).executes
    → t < end_of node jobs until j
    → (executed_before node jobs t j < (job_at jobs j).executes) × (t < until)
lacks node jobs until j t some = elim (finish_before node jobs until j) as
    (λ o. finish_before node jobs until j ≡ o → t < unwrap_or o until
    → (executed_before node jobs t j < (job_at jobs j).executes) × (t < until)) [
      | None ↦ λ e hi. (
        omega (
          arith,
          done_grows node jobs j t until (omega (arith, hi)),
          unfinished_is node jobs j until some e,
        ),
        hi,
      )
      | Some f ↦ λ e hi.
          let is = finish_is node jobs j until f some e in (
            omega (arith, done_grows node jobs j t (f - 1) (omega (arith, hi)), is.1.before),
            omega (arith, hi, is.0),
          )
    ] refl

pub covered : CoverOnce
covered node jobs until j t is_job some = (
  λ lo hi.
      let left = lacks node jobs until j t some hi in
      let works = works_of node jobs t j is_job lo left.0 in
      within (job_at jobs j).ready (end_of node jobs until j) t (slices_of node jobs until) lo hi
      ∙ one_of (picked node jobs) 0 until t works.0 (slices_of node jobs until)
      (longest_runs node jobs until) (omega arith) left.1 works.1,
  λ out. outside (job_at jobs j).ready (end_of node jobs until j) t (slices_of node jobs until) out,
)
