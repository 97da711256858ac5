-- For how long the slices of a trace execute between two times, by whom its ticks show.
use Rattle.std.proofs.Common.{ℕ, zero, suc, ◌+◌, ◌-◌, ◌<◌, ◌≤◌, ◌≡◌, ◌⊎◌, inl, inr, refl, sym, ap, ◌∙◌}
use Rattle.std.proofs.Common.{arith, Bool, true, false, ◌&&◌, cond, List, [], ◌∷◌, Option, None}
use Rattle.std.proofs.Common.{add-zero, add-suc, not, min, max}
use Rattle.std.proofs.lemmas.Bool.{cases_Bool, cases_lt, and_left, and_right}
use Rattle.ceiling_kernel.specs.Tick.{Node, Job}
use Rattle.ceiling_kernel.proofs.SumLaws.{total}
use Rattle.interrupted_runs.specs.Seen.{is_none_of_set, seen_within}
use Rattle.trace_text.specs.declared.rows.TraceJob.{TraceJob}
use Rattle.trace_text.specs.declared.rows.TraceSlice.{TraceSlice}
use Rattle.observed.specs.Pieces.{piece_of, pieces_of}
use Rattle.observed.specs.declared.pieces.Piece.{Piece}
use Rattle.observed.specs.declared.promises.Promise.{Promise}
use Rattle.kept_promises.proofs.TickLaws.{lies, lies_after, lies_before, lies_within, time_by, total_next}
use Rattle.kept_promises.proofs.TickLaws.{total_run, total_same, total_start}
use Rattle.kept_beside.specs.ShownSlices.{IsOfJob, IsOfStranger, ShowTicks}

-- the opposite test
abbrev pub is_of_set : Option ℕ → Bool
is_of_set who = not (is_none_of_set who)

-- ---- ticks that count
module _ (shown : ℕ → Option ℕ) (c : Option ℕ → Bool) (lo hi : ℕ) where
  -- a tick between two times that shows somebody who counts
  abbrev pub tick : ℕ → ℕ
  tick t = cond (c (shown t) && lies lo hi t) 1 0

  tick_in : (t : ℕ) → c (shown t) ≡ true → tick t ≡ cond (lies lo hi t) 1 0
  tick_in t so = rw so refl

  tick_out : (t : ℕ) → lies lo hi t ≡ false → tick t ≡ 0
  tick_out t out = rw (and_right (c (shown t)) (lies lo hi t) out) refl

  tick_other : (t : ℕ) → c (shown t) ≡ false → tick t ≡ 0
  tick_other t not_so = rw (and_left (c (shown t)) (lies lo hi t) not_so) refl

  tick_lies : (t : ℕ) → lies lo hi t ≡ true → tick t ≡ cond (c (shown t)) 1 0
  tick_lies t in_ = elim (cases_Bool (c (shown t))) [
    | inl so ↦ rw (so, in_) refl
    | inr not_so ↦ rw not_so refl
  ]

  -- the sums grow
  grows : (a b : ℕ) → a ≤ b → total tick a ≤ total tick b
  grows a zero le = (let start : a ≡ 0 = omega arith in rw start (omega arith))
  grows a (suc b) le = elim (cases_lt b a) [
    | inl now ↦ (let same : a ≡ suc b = omega arith in rw same (omega arith))
    | inr before ↦ omega (arith, grows a b before, total_next tick b)
  ]

  -- those of a time in which all count
  all_in : (a b : ℕ) → a ≤ b → ((t : ℕ) → a ≤ t → t < b → c (shown t) ≡ true)
      → total tick b ≡ total tick a + (min b hi - max a lo)
  all_in a b le each = total_run tick lo hi a b le (λ t from to. tick_in t (each t from to))

  -- no more than all that lie between the times
  abbrev wide : ℕ → ℕ
  wide t = cond (lies lo hi t) 1 0

  tick-le : (t : ℕ) → tick t ≤ wide t
  tick-le t = elim (cases_Bool (c (shown t))) [
    | inl so ↦ omega (arith, tick_in t so)
    | inr not_so ↦ omega (arith, tick_other t not_so)
  ]

  below_wide : (a b : ℕ) → a ≤ b → total tick b + total wide a ≤ total tick a + total wide b
  below_wide a zero le = (let start : a ≡ 0 = omega arith in rw start (omega arith))
  below_wide a (suc b) le = elim (cases_lt b a) [
    | inl now ↦ (let same : a ≡ suc b = omega arith in rw same (omega arith))
    | inr before ↦ omega (
      arith,
      below_wide a b before,
      tick-le b,
      total_next tick b,
      total_next wide b,
    )
  ]

  most_in : (a b : ℕ) → a ≤ b → total tick b ≤ total tick a + (min b hi - max a lo)
  most_in a b le = omega (
    arith,
    below_wide a b le,
    total_run wide lo hi a b le (λ t _ _. refl),
  )

  -- those of a time in which none does
  none_in : (a b : ℕ) → a ≤ b → ((t : ℕ) → a ≤ t → t < b → c (shown t) ≡ false)
      → total tick b ≡ total tick a
  none_in a b le each = total_same tick a b le (λ t from to. tick_other t (each t from to))

  -- those of a window from the first time on
  window_of : (n : ℕ) → lo + n ≤ hi → total tick (lo + n) ≡ seen_within c shown lo n
  window_of zero le = rw add-zero (total_same tick 0 lo (omega arith)
      (λ t _ before. tick_out t (lies_before lo hi t before)) ∙ total_start tick)
  window_of (suc n) le =
      let here : tick (lo + n) ≡ cond (c (shown (lo + n))) 1 0 =
      tick_lies (lo + n) (lies_within lo hi (lo + n) (omega arith) (omega arith)) in
      rw add-suc (omega (arith, window_of n (omega arith), total_next tick (lo + n), here))

  -- so those of all ticks are seen between the times
  pub window : (until : ℕ) → hi ≤ until → total tick until ≡ seen_within c shown lo (hi - lo)
  window until le = elim (cases_lt lo hi) [
    | inl some ↦
        let to : lo + (hi - lo) ≡ hi = omega arith in
        let own : total tick (lo + (hi - lo)) ≡ seen_within c shown lo (hi - lo) =
        window_of (hi - lo) (omega arith) in
        total_same tick hi until le (λ t after _. tick_out t (lies_after lo hi t after))
        ∙ ap (total tick) (sym to) ∙ own
    | inr none ↦
        let empty : hi - lo ≡ 0 = omega arith in
        total_same tick 0 until (omega arith) (λ t _ _. tick_out t (elim (cases_lt t lo) [
          | inl before ↦ lies_before lo hi t before
          | inr after ↦ lies_after lo hi t (omega (arith, none, after))
        ]))
        ∙ total_start tick ∙ ap (λ n. seen_within c shown lo n) (sym empty)
  ]

-- somebody's ticks and nobody's are all
pub parts : (shown : ℕ → Option ℕ) (a n : ℕ)
    → seen_within is_of_set shown a n + seen_within is_none_of_set shown a n ≡ n
parts shown a zero = refl
parts shown a (suc n) = elim (cases_Bool (is_none_of_set (shown (a + n)))) [
  | inl none ↦ rw none (omega (arith, parts shown a n))
  | inr some ↦ rw some (omega (arith, parts shown a n))
]

-- ---- slices
-- a slice of a trace: it ends in it, and is of a job, or of a thread that the set doesn't have
pub record IsShown (comes : ℕ → ℕ) (node : Node) (numbers : List ℕ) (jobs : List Job) (shown : ℕ → Option ℕ)
    (until : ℕ) (s : TraceSlice) : Type 0 where
  pub lasts : s.start < s.stop
  pub in_run : s.stop ≤ until
  pub who : IsOfStranger node shown s ⊎ ((p : ℕ) × IsOfJob comes node numbers jobs shown s p)

-- the pieces of two kinds are all
pub time_parts : (counted : Piece → Bool) (lo hi : ℕ) (ps : List Piece)
    → time_by counted lo hi ps + time_by (λ p. not (counted p)) lo hi ps ≡ time_by (λ _. true) lo hi ps
time_parts counted lo hi [] = refl
time_parts counted lo hi (p ∷ ps) = elim (cases_Bool (counted p)) [
  | inl so ↦ rw so (omega (arith, time_parts counted lo hi ps))
  | inr not_so ↦ rw not_so (omega (arith, time_parts counted lo hi ps))
]

module _ (comes : ℕ → ℕ) (node : Node) (numbers : List ℕ) (jobs : List Job) (shown : ℕ → Option ℕ)
    (until : ℕ) (promises : List Promise) (all : List TraceJob) where
  -- the piece of a slice
  abbrev pub piece : TraceSlice → Piece
  piece s = piece_of promises all s

  module _ (counted : Piece → Bool) (lo hi : ℕ) (c : Option ℕ → Bool) where
    abbrev ticks : ℕ → ℕ
    ticks t = total (tick shown c lo hi) t

    -- where each slice that counts shows those who count, they show no more
    pub time_most : ((s : TraceSlice) → IsShown comes node numbers jobs shown until s
        → counted (piece s) ≡ true → (t : ℕ) → s.start ≤ t → t < s.stop → c (shown t) ≡ true)
        → (from : ℕ) (ss : List TraceSlice) → from ≤ until
        → ShowTicks comes node numbers jobs shown from until ss
        → ticks from + time_by counted lo hi (pieces_of promises all ss) ≤ ticks until
    time_most same from [] le h = omega (arith, grows shown c lo hi from until le)
    time_most same from (s ∷ ss) le h =
        let is : IsShown comes node numbers jobs shown until s =
        record { lasts = h.1; in_run = h.2; who = h.4 } in
        let rest = time_most same s.stop ss h.2 h.5 in
        let before = grows shown c lo hi from s.start h.0 in
        elim (cases_Bool (counted (piece s))) [
          | inl so ↦ rw so (omega (
            arith,
            rest,
            before,
            all_in shown c lo hi s.start s.stop (omega (arith, h.1)) (same s is so),
          ))
          | inr not_so ↦ rw not_so (omega (
            arith,
            rest,
            before,
            grows shown c lo hi s.start s.stop (omega (arith, h.1)),
          ))
        ]

    -- where each slice that doesn't count shows others, and a tick without a slice does, they show no less
    pub time_least : c None ≡ false
        → ((s : TraceSlice) → IsShown comes node numbers jobs shown until s
        → counted (piece s) ≡ false → (t : ℕ) → s.start ≤ t → t < s.stop → c (shown t) ≡ false)
        → (from : ℕ) (ss : List TraceSlice) → from ≤ until
        → ShowTicks comes node numbers jobs shown from until ss
        → ticks until ≤ ticks from + time_by counted lo hi (pieces_of promises all ss)
    time_least none same from [] le h = omega (
      arith,
      none_in shown c lo hi from until le (λ t after before. ap c (h t after before) ∙ none),
    )
    time_least none same from (s ∷ ss) le h =
        let is : IsShown comes node numbers jobs shown until s =
        record { lasts = h.1; in_run = h.2; who = h.4 } in
        let rest = time_least none same s.stop ss h.2 h.5 in
        let before = none_in shown c lo hi from s.start h.0
        (λ t after early. ap c (h.3 t after early) ∙ none) in
        elim (cases_Bool (counted (piece s))) [
          | inl so ↦ rw so (omega (
            arith,
            rest,
            before,
            most_in shown c lo hi s.start s.stop (omega (arith, h.1)),
          ))
          | inr not_so ↦ rw not_so (omega (
            arith,
            rest,
            before,
            none_in shown c lo hi s.start s.stop (omega (arith, h.1)) (same s is not_so),
          ))
        ]
