-- What shares take within a window, and within a longer one after it.
use Rattle.std.proofs.Common.{◌≡◌, ℕ, ◌+◌, ◌-◌, ◌*◌, ◌<◌, ◌≤◌, suc, inl, inr, List, [], ◌∷◌, length}
use Rattle.std.proofs.Common.{take, drop, get_or, ◌++◌, map, sum_by, ap, refl, ◌∙◌, arith}
use Rattle.std.proofs.Math.ListN.{set}
use Rattle.std.proofs.lemmas.Bool.{cases_lt}
use Rattle.std.proofs.lemmas.List.{take_more, take_more_set, drop_more, get_or_at, length-map}
use Rattle.std.proofs.lemmas.List.{length-take}
use Rattle.std.proofs.lemmas.List.Edits.{map_over_more}
use Rattle.std.proofs.lemmas.List.Elements.{All-map, All-push}
use Rattle.std.proofs.lemmas.List.Sums.{sum_by-cons, sum_by_push}
use Rattle.std.proofs.lemmas.Grind.{div_ceil_times}
use Rattle.std.proofs.Math.Nat.{mul-le-mul_left, mul-le-mul_right}
use Rattle.std.specs.Int.{div_ceil}
use Rattle.std.specs.List.{All}
use Rattle.response_time.specs.Workload.{ShareData, WorkloadData, IsShare, IsCountedTo, IsCarried}
use Rattle.response_time.specs.Workload.{share_within, further_work, counted_to}

-- within twice the longest period, at most three times that
pub jobs-fit : (period cost time : ℕ) → 0 < period → cost ≤ period → period ≤ 10000000
    → time ≤ 20000000 → div_ceil time period * cost ≤ 30000000
jobs-fit period cost time some within short le = omega (
  arith,
  (div_ceil_times time period some).1,
  mul-le-mul_left (div_ceil time period) within,
  short,
)

pub share-fits : (s : ShareData) (time : ℕ) → 0 < s.period → s.cost ≤ s.period → s.period ≤ 10000000
    → s.jitter ≤ s.period → time ≤ 10000000 → share_within time s ≤ 30000000
share-fits s time some within short late le =
    jobs-fit s.period s.cost (time + s.jitter) some within short (omega arith)

-- one share more
pub share_added : (time : ℕ) (shares : List ShareData) (i : ℕ) (s : ShareData) → i < length shares
    → sum_by (share_within time) (take (i + 1) (set shares i s))
    ≡ sum_by (share_within time) (take i shares) + share_within time s
share_added time shares i s lt =
    rw (take_more_set shares i s lt) (sum_by_push (share_within time) (take i shares) s)

-- ---- from a window to a longer one
ceil_unique : (n m p t : ℕ) → t ≤ n * p → n * p < t + p → t ≤ m * p → m * p < t + p → n ≡ m
ceil_unique n m p t a b c d = elim (cases_lt n m) [
  | inl lt ↦ let step : (n + 1) * p ≤ m * p = mul-le-mul_right p (omega arith) in
      absurd (omega arith)
  | inr le ↦ elim (cases_lt m n) [
    | inl lt ↦ let step : (m + 1) * p ≤ n * p = mul-le-mul_right p (omega arith) in
        absurd (omega arith)
    | inr le' ↦ omega arith
  ]
]

-- nothing is left of a multiple that is less than one
none_left : (k p : ℕ) → k * p < p → k * p ≡ 0
none_left k p lt = elim (cases_lt 0 k) [
  | inl some ↦ let one : 1 * p ≤ k * p = mul-le-mul_right p (omega arith) in absurd (omega arith)
  | inr none ↦ let all : k * p ≤ 0 * p = mul-le-mul_right p none in omega arith
]

-- the jobs within the first window, and those that are released after it
further : (p before time : ℕ) → 0 < p → before ≤ time
    → div_ceil before p + div_ceil (time - div_ceil before p * p) p ≡ div_ceil time p
further p before time pos le =
    let n = div_ceil before p in
    let k = div_ceil (time - n * p) p in
    let first = div_ceil_times before p pos in
    let rest = div_ceil_times (time - n * p) p pos in
    let whole = div_ceil_times time p pos in
    let bound : (n + k) * p < time + p = elim (cases_lt (n * p) time) [
      | inl lt ↦ omega (arith, rest.1)
      | inr past ↦ omega (arith, first.1, none_left k p (omega (arith, rest.1)))
    ] in
    ceil_unique (n + k) (div_ceil time p) p time (omega (arith, rest.0)) bound whole.0 whole.1

module _ (before time : ℕ) (le : before ≤ time) where
  -- what is left of the window past the jobs that are counted
  rest : (s : ShareData) → IsCountedTo before s
      → time - s.due ≡ time + s.jitter - div_ceil (before + s.jitter) s.period * s.period
  rest s h = omega (arith, h.all)

  pub IsCountedTo-further : (s : ShareData) → IsCountedTo before s
      → IsCountedTo time (counted_to time s)
  IsCountedTo-further s h = record {
    some = h.some;
    short = h.short;
    late = h.late;
    within = h.within;
    all = rw (
      rest s h,
      ← further s.period (before + s.jitter) (time + s.jitter) h.some
          (omega arith),
    ) (omega (arith, h.all));
  }

  pub share_within-further : (s : ShareData) → IsCountedTo before s
      → share_within before s + further_work time s ≡ share_within time s
  share_within-further s h =
      rw (rest s h, ← further s.period (before + s.jitter) (time + s.jitter) h.some (omega arith))
      (omega arith)

  pub sum-further : (shares : List ShareData) → All (IsCountedTo before) shares
      → sum_by (share_within before) shares + sum_by (further_work time) shares
      ≡ sum_by (share_within time) shares
  sum-further [] h = refl
  sum-further (s ∷ shares) h =
      let here = share_within-further s (h 0 s (omega arith)) in
      let rest = sum-further shares (λ k d lt. h (suc k) d (omega arith)) in
      rw (
        sum_by-cons (share_within before) s shares,
        sum_by-cons (further_work time) s shares,
        sum_by-cons (share_within time) s shares,
      ) (omega arith)

-- what a share takes does not rest on what is counted
pub sum-counted : (t time : ℕ) (shares : List ShareData)
    → sum_by (share_within t) (map (counted_to time) shares) ≡ sum_by (share_within t) shares
sum-counted t time [] = refl
sum-counted t time (s ∷ shares) =
    rw (
      sum_by-cons (share_within t) (counted_to time s) (map (counted_to time) shares),
      sum_by-cons
          (share_within t) s shares,
    ) (ap (λ n. share_within t s + n) (sum-counted t time shares))

pub sum-fits : (before time : ℕ) (shares : List ShareData) → time ≤ 10000000
    → All (IsCountedTo before) shares → sum_by (share_within time) shares ≤ length shares * 30000000
sum-fits before time [] le h = omega arith
sum-fits before time (s ∷ shares) le h =
    let first = h 0 s (omega arith) in
    let here = share-fits s time first.some first.within first.short first.late le in
    let rest = sum-fits before time shares le (λ k d lt. h (suc k) d (omega arith)) in
    rw (sum_by-cons (share_within time) s shares) (omega arith)

-- up to the window within which no further job is released a share takes the same
pub share_within-still : (s : ShareData) (first time : ℕ) → IsCountedTo first s → first ≤ time
    → time ≤ s.due → share_within time s ≡ share_within first s
share_within-still s first time h le short =
    let n = div_ceil (first + s.jitter) s.period in
    let m = div_ceil (time + s.jitter) s.period in
    let start = div_ceil_times (first + s.jitter) s.period h.some in
    let end = div_ceil_times (time + s.jitter) s.period h.some in
    ap (λ k. k * s.cost) (ceil_unique m n s.period (time + s.jitter) end.0 end.1
    (omega (arith, h.all, short)) (omega (arith, start.1, le)))

pub IsCarried-further : (w v : WorkloadData) → IsCarried w → w.time ≤ v.time → v.always ≡ w.always
    → v.shares ≡ map (counted_to v.time) w.shares
    → v.total ≡ w.total + sum_by (further_work v.time) w.shares → IsCarried v
IsCarried-further w v h le always shares total = record {
  counted = rw shares (All-map (IsCountedTo v.time) (counted_to v.time) w.shares
      (λ k d lt. IsCountedTo-further w.time v.time le _ (h.counted k d lt)));
  total = rw shares (omega (
    arith,
    always,
    total,
    h.total,
    sum-further w.time v.time le w.shares
        h.counted,
    sum-counted v.time v.time w.shares,
  ));
}

-- one share more is counted
pub share_counted : (time : ℕ) (old shares : List ShareData) (i : ℕ) (s : ShareData)
    → i < length old
    → shares ≡ map (counted_to time) (take i old) ++ drop i old → s ≡ get_or shares i s
    → (set shares i (counted_to time s) ≡ map (counted_to time) (take (i + 1) old)
    ++ drop (i + 1) old)
    × (sum_by (further_work time) (take (i + 1) old)
    ≡ sum_by (further_work time) (take i old) + further_work time s)
share_counted time old shares i s lt h is =
    let front = map (counted_to time) (take i old) in
    let long : length front ≡ i = length-map (take i old) (counted_to time)
    ∙ omega (arith, length-take i old) in
    let parts : shares ≡ front ++ get_or old i s ∷ drop (i + 1) old = h
    ∙ ap (λ l. front ++ l) (drop_more old i s lt) in
    let read : s ≡ get_or old i s = is ∙ ap (λ l. get_or l i s) parts
    ∙ get_or_at front _ _ s i long in (
      map_over_more (counted_to time) old shares i s lt h is,
      rw (take_more old i s lt, ← read) (sum_by_push (further_work time) (take i old) s),
    )

-- one share more is carried
pub IsCarried-added : (always time total work i : ℕ) (shares : List ShareData) (s : ShareData)
    → i < length shares
    → IsCarried record { always = always; shares = take i shares; time = time; total = total }
    → IsCountedTo time s → work ≡ share_within time s
    → IsCarried record {
      always = always;
      shares = take (i + 1) (set shares i s);
      time = time;
      total = total + work;
    }
IsCarried-added always time total work i shares s lt h counted is = record {
  counted = rw (take_more_set shares i s lt)
      (All-push (IsCountedTo time) (take i shares) s h.counted counted);
  total = omega (arith, h.total, is, share_added time shares i s lt);
}
