-- For how long the slices of a run execute between two times, tick by tick.
use Rattle.std.proofs.Common.{ℕ, zero, suc, ◌+◌, ◌-◌, ◌<◌, ◌≤◌, ◌≡◌, inl, inr, refl, ap, ◌∙◌}
use Rattle.std.proofs.Common.{arith, Bool, true, false, ◌&&◌, cond, min, max, List, [], ◌∷◌, Option}
use Rattle.std.proofs.Common.{Some, None, nat_le, nat_lt}
use Rattle.std.proofs.lemmas.Bool.{cases_Bool, cases_eq, cases_lt, lt-ltb, le-ltb, le-leb, lt-leb}
use Rattle.std.proofs.lemmas.Bool.{and_from, and_left, and_right}
use Rattle.ceiling_kernel.specs.declared.trace.JobRecord.{JobRecord}
use Rattle.ceiling_kernel.specs.declared.trace.Slice.{Slice}
use Rattle.ceiling_kernel.proofs.Common.{AreLongestRuns}
use Rattle.ceiling_kernel.proofs.SumLaws.{total}
use Rattle.trace_text.specs.declared.rows.TraceJob.{TraceJob}
use Rattle.observed.specs.Pieces.{piece_of, pieces_of}
use Rattle.observed.specs.Shares.{overlap}
use Rattle.observed.specs.declared.pieces.Piece.{Piece}
use Rattle.observed.specs.declared.promises.Promise.{Promise}
use Rattle.kept_promises.specs.PrintedRuns.{slice_row, slices_from}

-- ---- sums of ticks
pub total_next : (f : ℕ → ℕ) (n : ℕ) → total f (suc n) ≡ total f n + f n
unfolding total
total_next f n = refl

pub total_start : (f : ℕ → ℕ) → total f 0 ≡ 0
unfolding total
total_start f = refl

-- the sum stays where each term is 0
pub total_same : (f : ℕ → ℕ) (a b : ℕ) → a ≤ b → ((t : ℕ) → a ≤ t → t < b → f t ≡ 0)
    → total f b ≡ total f a
unfolding total
total_same f a zero le none = (let start : a ≡ 0 = omega arith in rw start refl)
total_same f a (suc b) le none = elim (cases_eq a (suc b)) [
  | inl same ↦ rw same refl
  | inr more ↦ omega (
    arith,
    total_same f a b (omega arith) (λ t lo hi. none t lo (omega arith)),
    none b (omega arith) (omega arith),
  )
]

-- a tick lies between two times
abbrev pub lies : (lo hi t : ℕ) → Bool
lies lo hi t = nat_le lo t && nat_lt t hi

pub lies_within : (lo hi t : ℕ) → lo ≤ t → t < hi → lies lo hi t ≡ true
lies_within lo hi t from to =
    and_from (nat_le lo t) (nat_lt t hi) (le-leb lo t from) (lt-ltb t hi to)

pub lies_before : (lo hi t : ℕ) → t < lo → lies lo hi t ≡ false
lies_before lo hi t before = and_left (nat_le lo t) (nat_lt t hi) (lt-leb lo t before)

pub lies_after : (lo hi t : ℕ) → hi ≤ t → lies lo hi t ≡ false
lies_after lo hi t after = and_right (nat_le lo t) (nat_lt t hi) (le-ltb t hi after)

-- where each tick from one time to another counts if it lies between two others, the sum grows by
-- those that do
pub total_run : (f : ℕ → ℕ) (lo hi a b : ℕ) → a ≤ b
    → ((t : ℕ) → a ≤ t → t < b → f t ≡ cond (lies lo hi t) 1 0)
    → total f b ≡ total f a + (min b hi - max a lo)
unfolding total
total_run f lo hi a zero le each = (let start : a ≡ 0 = omega arith in rw start (omega arith))
total_run f lo hi a (suc b) le each = elim (cases_eq a (suc b)) [
  | inl same ↦ rw same (omega arith)
  | inr more ↦
      let rest = total_run f lo hi a b (omega arith) (λ t from to. each t from (omega arith)) in
      let here = each b (omega arith) (omega arith) in
      elim (cases_lt b lo) [
        | inl early ↦ omega (arith, rest, rw (lies_before lo hi b early) at here)
        | inr from ↦ elim (cases_lt b hi) [
          | inl to ↦ omega (arith, rest, rw (lies_within lo hi b from to) at here)
          | inr late ↦ omega (arith, rest, rw (lies_after lo hi b late) at here)
        ]
      ]
]

-- ---- ticks that count
-- a tick counts that lies between two times and executes a job that counts
abbrev pub hit : (c : ℕ → Bool) (lo hi t : ℕ) → Option ℕ → ℕ
hit c lo hi t None = 0
hit c lo hi t (Some j) = cond (c j && lies lo hi t) 1 0

abbrev pub hits : (run : ℕ → Option ℕ) (c : ℕ → Bool) (lo hi : ℕ) → ℕ → ℕ
hits run c lo hi t = hit c lo hi t (run t)

pub hit_outside : (c : ℕ → Bool) (lo hi t : ℕ) (o : Option ℕ) → lies lo hi t ≡ false
    → hit c lo hi t o ≡ 0
hit_outside c lo hi t None out = refl
hit_outside c lo hi t (Some j) out = rw (and_right (c j) (lies lo hi t) out) refl

pub hit-le : (c : ℕ → Bool) (lo hi t : ℕ) (o : Option ℕ) → hit c lo hi t o ≤ 1
hit-le c lo hi t None = omega arith
hit-le c lo hi t (Some j) = elim (cases_Bool (c j && lies lo hi t)) [
  | inl so ↦ rw so (omega arith)
  | inr not_so ↦ rw not_so (omega arith)
]

pub hit_none : (c : ℕ → Bool) (lo hi t j : ℕ) (o : Option ℕ) → o ≡ Some j → c j ≡ false
    → hit c lo hi t o ≡ 0
hit_none c lo hi t j o is not_so = ap (hit c lo hi t) is ∙ rw not_so refl

pub hit_own : (c : ℕ → Bool) (lo hi t j : ℕ) (o : Option ℕ) → o ≡ Some j → c j ≡ true
    → hit c lo hi t o ≡ cond (lies lo hi t) 1 0
hit_own c lo hi t j o is so = ap (hit c lo hi t) is ∙ rw so refl

-- ---- slices
-- a slice of a run: it ends in the run, and each of its ticks executes its job
pub record IsRunSlice (run : ℕ → Option ℕ) (until : ℕ) (s : Slice) : Type 0 where
  pub lasts : s.start < s.stop
  pub in_run : s.stop ≤ until
  pub own : (t : ℕ) → s.start ≤ t → t < s.stop → run t ≡ Some s.job

-- for how long those pieces execute between two times that are counted
abbrev pub time_by : (Piece → Bool) → (lo hi : ℕ) → List Piece → ℕ
time_by counted lo hi [] = 0
time_by counted lo hi (p ∷ pieces) =
    cond (counted p) (overlap lo hi p) 0 + time_by counted lo hi pieces

module _ (run : ℕ → Option ℕ) (until : ℕ) (promises : List Promise) (all : List TraceJob)
    (records : List JobRecord) where
  -- the piece of a slice
  abbrev pub piece : ℕ → Slice → Piece
  piece line s = piece_of promises all (slice_row records line s)

  module _ (counted : Piece → Bool) (lo hi : ℕ) (c : ℕ → Bool) (same : (line : ℕ) (s : Slice)
      → IsRunSlice run until s → counted (piece line s) ≡ c s.job) where
    -- the ticks of a slice that count are its share
    share : (line : ℕ) (s : Slice) → IsRunSlice run until s
        → total (hits run c lo hi) s.stop ≡ total (hits run c lo hi) s.start + cond
        (counted (piece line s)) (overlap lo hi (piece line s)) 0
    share line s is = elim (cases_Bool (c s.job)) [
      | inl so ↦ rw (same line s is ∙ so)
          (total_run (hits run c lo hi) lo hi s.start s.stop (omega (arith, is.lasts))
          (λ t from before. hit_own c lo hi t s.job (run t) (is.own t from before) so))
      | inr not_so ↦ rw (same line s is ∙ not_so) (omega (
        arith,
        total_same (hits run c lo hi) s.start s.stop (omega (arith, is.lasts))
            (λ t from before. hit_none c lo hi t s.job (run t) (is.own t from before) not_so),
      ))
    ]

    -- the ticks of a run that count are the time of those who are counted
    pub time_from : (line from : ℕ) (ss : List Slice) → from ≤ until
        → AreLongestRuns run from until ss
        → total (hits run c lo hi) until ≡ total (hits run c lo hi) from + time_by counted lo hi
        (pieces_of promises all (slices_from records line ss))
    time_from line from [] le none = omega (
      arith,
      total_same (hits run c lo hi) from until le
          (λ t after before. ap (hit c lo hi t) (none t after before)),
    )
    time_from line from (s ∷ ss) le h = omega (
      arith,
      total_same (hits run c lo hi) from s.start h.0
          (λ t after before. ap (hit c lo hi t) (h.3 t after before)),
      share line s (record { lasts = h.1; in_run = h.2; own = h.4 }),
      time_from (line + 1) s.stop ss h.2 h.6,
    )
