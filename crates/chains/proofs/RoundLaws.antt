-- A walk that begins a round later takes no longer: so none takes longer than those of the first round.
use Rattle.std.proofs.Common.{ℕ, zero, suc, ◌+◌, ◌-◌, ◌*◌, ◌/◌, ◌%◌, ◌==◌, ◌<◌, ◌≤◌, ◌≡◌, inl, inr, refl, sym, ap, ◌∙◌, arith}
use Rattle.std.proofs.Common.{List, [], ◌∷◌, Option, Some, None, true, false, if◌then◌else◌}
use Rattle.std.specs.Prelude.{Bool, option_map}
use Rattle.std.specs.Int.{next_multiple_of}
use Rattle.std.proofs.Math.Nat.{add-mul, le-max_left, le-max_right, mod_self, mod-eq_of_lt, mul-le-mul_right, suc-mul}
use Rattle.std.proofs.lemmas.Nat.{div-add-mod', mod_below}
use Rattle.std.proofs.lemmas.Bool.{and_parts, cases_Bool, cases_eq, cases_lt, cond-false, cond-true}
use Rattle.std.proofs.lemmas.Bool.{eqb-true, ltb-true}
use Rattle.std.proofs.lemmas.Option.{none-some, same_Some}
use Rattle.task_sheet.proofs.Common.{greatest_of}
use Rattle.chains.specs.Walks.{are_below, are_whole, arrival_from, arrivals, bound_by, first_whole, is_below, next_by}
use Rattle.chains.specs.Walks.{span_from, walk_from}
use Rattle.chains.specs.declared.walks.Step.{Step}
use Rattle.chains.specs.declared.walks.TheConstants.{ARRIVAL_LIMIT}

-- ---- arrivals
-- the least multiple from x on is one, and comes soon
multiple_of : (x y : ℕ) → 0 < y
    → (k : ℕ) × (next_multiple_of x y ≡ k * y) × (next_multiple_of x y < x + y)
multiple_of x y some =
    let split : x / y * y + x % y ≡ x = div-add-mod' x y in
    let below : x % y < y = mod_below x y some in
    elim (cases_eq (x % y) 0) [
      | inl none ↦
          let whole : y - x % y ≡ y = omega arith in
          let rest : (y - x % y) % y ≡ 0 = ap (λ z. z % y) whole ∙ mod_self y in
          (x / y, omega arith, omega arith)
      | inr part ↦
          let rest : (y - x % y) % y ≡ y - x % y = mod-eq_of_lt (omega arith) in
          (suc (x / y), omega (arith, suc-mul (x / y) y), omega arith)
    ]

-- the first arrival at t or later is at least a period after each one before t
pub period_before : (offset period m t : ℕ) → 0 < period → offset + m * period < t
    → offset + m * period + period ≤ arrival_from offset period t
period_before offset period m t some before =
    let n : (k : ℕ) × (next_multiple_of (t - offset) period ≡ k * period)
    × (next_multiple_of (t - offset) period < t - offset + period) =
    multiple_of (t - offset) period some in
    elim (cases_lt m n.0) [
      | inr ge ↦ absurd (omega (arith, n.1, mul-le-mul_right period ge))
      | inl less ↦
          let more : suc m * period ≤ n.0 * period = mul-le-mul_right period less in
          omega (arith, n.1, more, suc-mul m period)
    ]

-- and comes no later than any other
first_from : (offset period m t : ℕ) → 0 < period → t ≤ offset + m * period
    → arrival_from offset period t ≤ offset + m * period
first_from offset period m t some le =
    let n : (k : ℕ) × (next_multiple_of (t - offset) period ≡ k * period)
    × (next_multiple_of (t - offset) period < t - offset + period) =
    multiple_of (t - offset) period some in
    elim (cases_lt m n.0) [
      | inr ge ↦ omega (arith, n.1, mul-le-mul_right period ge)
      | inl less ↦
          let more : suc m * period ≤ n.0 * period = mul-le-mul_right period less in
          absurd (omega (arith, n.1, n.2, more, suc-mul m period))
    ]

-- the next job comes no earlier
pub next_late : (offset : Option ℕ) (period t : ℕ) → t ≤ next_by offset period t
next_late None period t = omega arith
next_late (Some offset) period t = omega arith

-- one that is waited for later comes no earlier
pub next_grows : (offset : Option ℕ) (period t u : ℕ) → t ≤ u
    → next_by offset period t ≤ next_by offset period u
next_grows None period t u le = omega arith
next_grows (Some offset) zero t u le = omega arith
next_grows (Some offset) (suc gap) t u le =
    let n = multiple_of (u - offset) (suc gap) (omega arith) in
    omega (arith, n.1, first_from offset (suc gap) n.0 t (omega arith) (omega (arith, n.1)))

-- it comes within a period
pub next_soon : (offset : Option ℕ) (period t : ℕ) → is_below offset period ≡ true
    → next_by offset period t ≤ t + period
next_soon None period t below = omega arith
next_soon (Some offset) period t below =
    let some : offset < period = ltb-true offset period below in
    elim (cases_lt t offset) [
      | inr from ↦
          let n = multiple_of (t - offset) period (omega arith) in
          omega (arith, n.2)
      | inl before ↦ omega (arith, first_from offset period 0 t (omega arith) (omega arith))
    ]

-- ---- a round later
-- whole periods later the next job comes no later than that after the first
next_round : (offset : Option ℕ) (period round t u : ℕ) → is_below offset period ≡ true
    → (round % period == 0) ≡ true → u ≤ t + round
    → next_by offset period u ≤ next_by offset period t + round
next_round None period round t u below whole le = omega arith
next_round (Some offset) period round t u below whole le =
    let some : offset < period = ltb-true offset period below in
    let none : round % period ≡ 0 = eqb-true (round % period) 0 whole in
    let n : (k : ℕ) × (next_multiple_of (t - offset) period ≡ k * period)
    × (next_multiple_of (t - offset) period < t - offset + period) =
    multiple_of (t - offset) period (omega arith) in
    let sum : (n.0 + round / period) * period ≡ n.0 * period + round / period * period =
    add-mul n.0 (round / period) period in
    let split : round / period * period + round % period ≡ round = div-add-mod' round period in
    omega (
      arith,
      n.1,
      first_from offset period (n.0 + round / period) u (omega arith) (omega (arith, n.1)),
    )

-- so does what a walk comes to
walk_round : (steps : List Step) (round t u : ℕ) → are_below steps ≡ true → are_whole steps round ≡ true
    → u ≤ t + round → walk_from steps u ≤ walk_from steps t + round
walk_round [] round t u below whole le = le
walk_round (s ∷ steps) round t u below whole le =
    let b = and_parts (is_below s.offset s.period) (are_below steps) below in
    let w = and_parts (round % s.period == 0) (are_whole steps round) whole in
    walk_round steps round (next_by s.offset s.period t + s.delay)
    (next_by s.offset s.period u + s.delay) b.1 w.1
    (omega (arith, next_round s.offset s.period round t u b.0 w.0 le))

-- and a span takes no longer
span_round : (s : Step) (steps : List Step) (round t : ℕ) → are_below (s ∷ steps) ≡ true
    → are_whole (s ∷ steps) round ≡ true
    → span_from (s ∷ steps) (t + round) ≤ span_from (s ∷ steps) t
span_round s steps round t below whole =
    let b = and_parts (is_below s.offset s.period) (are_below steps) below in
    let w = and_parts (round % s.period == 0) (are_whole steps round) whole in
    omega (
      arith,
      walk_round steps round (t + s.period + s.delay) (t + round + s.period + s.delay) b.1 w.1
          (omega arith),
    )

-- ---- the first round
-- the number that is found is of whole periods of each task
pub first_found : (steps : List Step) (period many n k : ℕ) → first_whole steps period many n ≡ Some k
    → (n ≤ k) × (are_whole steps (k * period) ≡ true)
unfolding first_whole
first_found steps period zero n k is = absurd (none-some k is)
first_found steps period (suc many) n k is =
    let next : Option ℕ = first_whole steps period many (n + 1) in
    elim (cases_Bool (are_whole steps (n * period))) [
      | inl whole ↦
          let same : n ≡ k = same_Some n k (sym (cond-true _ (Some n) next whole) ∙ is) in
          (omega arith, ap (λ z. are_whole steps (z * period)) (sym same) ∙ whole)
      | inr not ↦
          let rest = first_found steps period many (n + 1) k
          (sym (cond-false _ (Some n) next not) ∙ is) in
          (omega (arith, rest.0), rest.1)
    ]

-- the greatest is no less than any
greatest_from : (f : ℕ → ℕ) (first period n m : ℕ) → m < n
    → f (first + m * period) ≤ greatest_of f (arrivals first period n)
greatest_from f first period zero m less = absurd (omega arith)
greatest_from f first period (suc n) zero less =
    let same : first + 0 * period ≡ first = omega arith in
    omega (
      arith,
      ap f same,
      le-max_left (f first) (greatest_of f (arrivals (first + period) period n)),
    )
greatest_from f first period (suc n) (suc m) less =
    let same : first + suc m * period ≡ first + period + m * period =
    omega (arith, suc-mul m period) in
    omega (
      arith,
      ap f same,
      greatest_from f (first + period) period n m (omega arith),
      le-max_right (f first) (greatest_of f (arrivals (first + period) period n)),
    )

module _ (s : Step) (steps : List Step) (offset n : ℕ) (some : 0 < n)
    (below : are_below (s ∷ steps) ≡ true) (whole : are_whole (s ∷ steps) (n * s.period) ≡ true) where
  -- no span takes longer than those of the first round
  span_within_round : (fuel m : ℕ) → m ≤ fuel
      → span_from (s ∷ steps) (offset + m * s.period)
      ≤ greatest_of (λ t. span_from (s ∷ steps) t) (arrivals offset s.period n)
  span_within_round zero m le =
      greatest_from (λ t. span_from (s ∷ steps) t) offset s.period n m (omega arith)
  span_within_round (suc fuel) m le =
      elim (cases_lt m n) [
        | inl first ↦ greatest_from (λ t. span_from (s ∷ steps) t) offset s.period n m first
        | inr later ↦
            let sum : (m - n + n) * s.period ≡ (m - n) * s.period + n * s.period =
            add-mul (m - n) n s.period in
            let all : m - n + n ≡ m = omega arith in
            let times : (m - n + n) * s.period ≡ m * s.period = ap (λ z. z * s.period) all in
            let same : offset + m * s.period ≡ offset + (m - n) * s.period + n * s.period =
            omega arith in
            omega (
              arith,
              ap (λ z. span_from (s ∷ steps) z) same,
              span_round s steps (n * s.period) (offset + (m - n) * s.period) below whole,
              span_within_round fuel (m - n) (omega arith),
            )
      ]

-- what the bound is the greatest of
pub longest_is : (f : ℕ → ℕ) (offset period bound : ℕ) (b : Bool) (w : Option ℕ)
    → option_map (λ ts. greatest_of f ts)
    (if b then option_map (λ n. arrivals offset period n) w else None)
    ≡ Some bound
    → (b ≡ true) × ((n : ℕ) × (w ≡ Some n) × (greatest_of f (arrivals offset period n) ≡ bound))
longest_is f offset period bound true (Some n) is =
    (refl, (n, refl, same_Some (greatest_of f (arrivals offset period n)) bound is))
longest_is f offset period bound true None is = absurd (none-some bound is)
longest_is f offset period bound false w is = absurd (none-some bound is)

-- so the span from each arrival of the first task is within the bound
pub span_within_bound : (period offset delay : ℕ) (steps : List Step) (bound m : ℕ)
    → bound_by (record { period = period; offset = Some offset; delay = delay } ∷ steps) ≡ Some bound
    → span_from (record { period = period; offset = Some offset; delay = delay } ∷ steps)
    (offset + m * period)
    ≤ bound
span_within_bound period offset delay steps bound m is =
    let s : Step = record { period = period; offset = Some offset; delay = delay } in
    let l = longest_is (λ t. span_from (s ∷ steps) t) offset period bound (are_below (s ∷ steps))
    (first_whole (s ∷ steps) period ARRIVAL_LIMIT 1) is in
    let f = first_found (s ∷ steps) period ARRIVAL_LIMIT 1 l.1.0 l.1.1 in
    omega (
      arith,
      l.1.2,
      span_within_round s steps offset l.1.0 (omega (arith, f.0)) l.0 f.1 m m (omega arith),
    )
