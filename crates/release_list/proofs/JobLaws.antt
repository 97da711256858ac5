-- What the list of some streams holds, and in which order.
use Rattle.std.proofs.Common.{◌≡◌, ℕ, zero, suc, ◌+◌, ◌<◌, ◌⊎◌, inl, inr, Bool, true, false, cond}
use Rattle.std.proofs.Common.{nat_lt, None, List, [], ◌∷◌, length, map, refl, sym, ◌∙◌, ap, ap₂}
use Rattle.std.proofs.Common.{if◌then◌else◌, arith}
use Rattle.std.specs.List.{filter}
use Rattle.std.proofs.lemmas.Bool.{and_parts, and_from, cases_eq, ltb-true, lt-ltb}
use Rattle.release_list.specs.declared.stream.Stream.{Stream}
use Rattle.ceiling_kernel.specs.declared.trace.Release.{Release}
use Rattle.ceiling_kernel.proofs.Common.{ready_of, no_release, release_at}
use Rattle.release_list.specs.Streams.{no_stream, stream_at, arrives, late_at, release_of}
use Rattle.release_list.specs.Streams.{is_listed, releases_at, releases_before, list_of, arrival_of}
use Rattle.release_list.specs.Streams.{job_release}
use Rattle.release_list.proofs.ArrivalLaws.{IsArrival, arrival, arrives_from, number_of, numbered}
use Rattle.release_list.proofs.InLaws.{In, Pairs, none, more, in_at, place_of, pairs_at, pairs_with}
use Rattle.release_list.proofs.InLaws.{in_front, in_back, in_either, pairs_append, to_map, from_map}
use Rattle.release_list.proofs.InLaws.{to_filter, from_filter}

-- a release is that of a listed job of the stream at a place
pub record IsOf (ss : List Stream) (until : ℕ) (r : Release) (i : ℕ) : Type 0 where
  pub in_set : i < length ss
  pub listed : is_listed r.time until (stream_at ss i) ≡ true
  pub is : r ≡ release_of r.time (stream_at ss i)

-- of two releases the first comes before, in time or in the order of the streams
abbrev pub InOrder : (ss : List Stream) (until : ℕ) → Release → Release → Type 0
InOrder ss until r s = (i : ℕ) × (h : ℕ) × IsOf ss until r i × IsOf ss until s h
    × ((r.time < s.time) ⊎ ((r.time ≡ s.time) × (i < h)))

-- ---- the releases of a time
made : {ss : List Stream} {until time i : ℕ} {r : Release} (s : Stream) → i < length ss
    → stream_at ss i ≡ s → is_listed time until s ≡ true → release_of time s ≡ r
    → IsOf ss until r i × (r.time ≡ time)
made s lt at on is = (
  record { in_set = lt; listed = rw (← is, at) on; is = rw (← is, at) refl },
  sym (ap (λ r. r.time) is),
)

at_from : (ss : List Stream) (time until : ℕ) {r : Release} → In r (releases_at ss time until)
    → (i : ℕ) × IsOf ss until r i × (r.time ≡ time)
at_from ss time until at =
    let m = from_map (release_of time) (filter (is_listed time until) ss) at in
    let f = from_filter (is_listed time until) ss m.1 in
    let p = place_of no_stream f.0 in
    let o = made m.0 p.1 p.2 f.1 m.2 in
    (p.0, o.0, o.1)

at_order : (ss : List Stream) (time until : ℕ)
    → Pairs (InOrder ss until) (releases_at ss time until)
at_order [] time until = none
at_order (s ∷ ss) time until = by (is_listed time until s) refl
    (pairs_with (at_order ss time until) (λ x y _ _ o. (
      suc o.0,
      suc o.1,
      pushed o.2,
      pushed o.3,
      elim o.4 [ inl early ↦ inl early | inr tie ↦ inr (tie.0, omega (arith, tie.1)) ],
    )))
  where
    pushed : {r : Release} {i : ℕ} → IsOf ss until r i → IsOf (s ∷ ss) until r (suc i)
    pushed o = record { in_set = omega (arith, o.in_set); listed = o.listed; is = o.is }

    by : (b : Bool) → is_listed time until s ≡ b
        → Pairs (InOrder (s ∷ ss) until) (releases_at ss time until)
        → Pairs (InOrder (s ∷ ss) until)
        (map (release_of time) (cond b (s ∷ filter (is_listed time until) ss)
        (filter (is_listed time until) ss)))
    by true on rest = more (λ r at. let a = at_from ss time until at in (
      0,
      suc a.0,
      record { in_set = omega arith; listed = on; is = refl },
      pushed a.1,
      inr (sym a.2, omega arith),
    )) rest
    by false off rest = rest

-- ---- the releases before a time
pub in_before : (ss : List Stream) (until time : ℕ) {r : Release}
    → In r (releases_before ss time until) → (i : ℕ) × IsOf ss until r i × (r.time < time)
unfolding releases_before
in_before ss until zero at = elim at [ ]
in_before ss until (suc time) at = elim (in_either _ _ at) [
  | inl early ↦ let b = in_before ss until time early in (b.0, b.1, omega (arith, b.2))
  | inr now ↦ let a = at_from ss time until now in (a.0, a.1, omega (arith, a.2))
]

pub order : (ss : List Stream) (until time : ℕ)
    → Pairs (InOrder ss until) (releases_before ss time until)
unfolding releases_before
order ss until zero = none
order ss until (suc time) =
    pairs_append (order ss until time) (at_order ss time until)
    (λ r s early now. let b = in_before ss until time early in let a = at_from ss time until now in
    (b.0, a.0, b.1, a.1, inl (omega (arith, b.2, a.2))))

-- each job that is listed is there
to_before : (ss : List Stream) (until bound time i : ℕ) → time < bound → i < length ss
    → is_listed time until (stream_at ss i) ≡ true
    → In (release_of time (stream_at ss i)) (releases_before ss bound until)
unfolding releases_before
to_before ss until zero time i less lt on = absurd (omega arith)
to_before ss until (suc bound) time i less lt on = elim (cases_eq time bound) [
  | inl now ↦ rw now (in_back _ (to_map (release_of bound)
      (to_filter (is_listed bound until) (in_at ss i no_stream lt) (rw now at on))))
  | inr other ↦ in_front _ (to_before ss until bound time i (omega arith) lt on)
]

-- ---- by the places of the list
pub of_at : (ss : List Stream) (until n : ℕ) → n < length (list_of ss until) → (i : ℕ)
    × IsOf ss until (release_at (list_of ss until) n) i
of_at ss until n lt =
    (let b = in_before ss until until (in_at _ n no_release lt) in (b.0, b.1))

pub order_at : (ss : List Stream) (until m n : ℕ) → m < n → n < length (list_of ss until)
    → InOrder ss until (release_at (list_of ss until) m) (release_at (list_of ss until) n)
order_at ss until m n less lt = pairs_at m n no_release (order ss until until) less lt

-- ---- of streams with periods
module _ {ss : List Stream} {until : ℕ} {r : Release} {i : ℕ} (of : IsOf ss until r i) where
  parts : (arrives r.time (stream_at ss i) ≡ true)
      × (nat_lt (r.time + late_at r.time (stream_at ss i)) until ≡ true)
  parts = and_parts _ _ of.listed

  -- it arrives
  pub arrived : IsArrival r.time (stream_at ss i)
  arrived = arrival r.time (stream_at ss i) parts.0

  -- and is ready before the end
  pub before_end : ready_of r < until
  before_end = omega (arith, ap (λ x. x.late) of.is, ltb-true _ _ parts.1)

-- a release by its time, and by whether it is the stream's first
abbrev by_first : Stream → ℕ → Bool → Release
by_first s time first =
    record { time = time; name = s.name; late = if first then s.late else 0; runs = None }

abbrev pub HavePeriods : List Stream → Type 0
HavePeriods ss = (i : ℕ) → i < length ss → 0 < (stream_at ss i).period

-- it is a job of the stream
pub job_from : {ss : List Stream} {until i : ℕ} {r : Release} → HavePeriods ss → IsOf ss until r i
    → (k : ℕ) × (r ≡ job_release (stream_at ss i) k)
job_from {ss} {until} {i} {r} periods o =
    let n = number_of r.time (stream_at ss i) (periods i o.in_set) (arrived o) in
    (n.0, o.is ∙ ap₂ (by_first (stream_at ss i)) n.1 n.2)

abbrev pub IsIn : List Release → Release → Type 0
IsIn rs r = (n : ℕ) × (n < length rs) × (release_at rs n ≡ r)

-- each job that is ready before the end is in the list
pub job_in : (ss : List Stream) (until : ℕ) → HavePeriods ss → (i k : ℕ) → i < length ss
    → ready_of (job_release (stream_at ss i) k) < until
    → IsIn (list_of ss until) (job_release (stream_at ss i) k)
job_in ss until periods i k lt before =
    let s : Stream = stream_at ss i in
    let time : ℕ = arrival_of s k in
    let n = numbered s k (periods i lt) in
    let same : release_of time s ≡ job_release s k = ap (by_first s time) n.1 in
    let late : late_at time s ≡ (job_release s k).late = ap (λ r. r.late) same in
    let on : is_listed time until s ≡ true =
    and_from (arrives time s) (nat_lt (time + late_at time s) until)
    (arrives_from time s n.0)
    (lt-ltb (time + late_at time s) until (omega (arith, late, before))) in
    place_of no_release (rw same at (to_before ss until until time i (omega (arith, before)) lt on))
