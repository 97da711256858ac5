-- The arrivals of one stream.
use Rattle.std.proofs.Common.{◌≡◌, ℕ, ◌+◌, ◌-◌, ◌*◌, ◌/◌, ◌%◌, ◌<◌, ◌≤◌, inl, inr, true, false}
use Rattle.std.proofs.Common.{◌==◌, nat_le, refl, sym, ◌∙◌, ap, arith}
use Rattle.std.proofs.Math.Nat.{mul-le-mul_left, mul-mod_left, div-add-mod}
use Rattle.std.proofs.lemmas.Bool.{and_parts, and_from, and_right, cases_eq, cases_lt}
use Rattle.std.proofs.lemmas.Bool.{leb-true, le-leb, eqb-true, eq-eqb, ne_eqb}
use Rattle.release_list.specs.declared.stream.Stream.{Stream}
use Rattle.release_list.specs.Streams.{arrives, arrival_of}

-- ---- multiples
-- a number that comes after a multiple, by less than it takes to the next, is none
pub between : (a b t : ℕ) → 0 < t → a < b → b < a + (t - a % t) → b % t ≡ 0 → ⊥
between a b t some less more e =
    let ea : t * (a / t) + a % t ≡ a = div-add-mod a t in
    let eb : t * (b / t) + b % t ≡ b = div-add-mod b t in
    elim (cases_lt (a / t) (b / t)) [
      | inl lt ↦
          let step : t * (a / t + 1) ≤ t * (b / t) = mul-le-mul_left t (omega arith) in
          omega arith
      | inr le ↦
          let back : t * (b / t) ≤ t * (a / t) = mul-le-mul_left t le in
          omega arith
    ]

-- two multiples are one apart at least
pub apart : (a b t : ℕ) → 0 < t → a < b → a % t ≡ 0 → b % t ≡ 0 → a + t ≤ b
apart a b t some less ea eb =
    elim (cases_lt b (a + t)) [
      | inl near ↦ absurd (between a b t some less (omega arith) eb)
      | inr far ↦ far
    ]

-- ---- what an arrival is
pub record IsArrival (time : ℕ) (t : Stream) : Type 0 where
  pub from : t.first ≤ time
  pub whole : (time - t.first) % t.period ≡ 0

pub arrival : (time : ℕ) (t : Stream) → arrives time t ≡ true → IsArrival time t
arrival time t h =
    let p = and_parts (nat_le (t.first) time) (((time - t.first) % t.period) == 0) h in
    record {
      from = leb-true (t.first) time p.0;
      whole =
          eqb-true ((time - t.first) % t.period) 0 p.1;
    }

pub arrives_from : (time : ℕ) (t : Stream) → IsArrival time t → arrives time t ≡ true
arrives_from time t a =
    and_from (nat_le (t.first) time) (((time - t.first) % t.period) == 0)
    (le-leb (t.first) time a.from) (eq-eqb ((time - t.first) % t.period) 0 a.whole)

-- between a time and what the next multiple is none arrives
pub none_between : (time u : ℕ) (t : Stream) → 0 < t.period → t.first ≤ time → time < u
    → u < time + (t.period - (time - t.first) % t.period) → arrives u t ≡ false
none_between time u t some from less more =
    and_right (nat_le (t.first) u) (((u - t.first) % t.period) == 0)
    (ne_eqb ((u - t.first) % t.period) 0
    (λ e. between (time - t.first) (u - t.first) t.period some (omega arith) (omega arith) e))

-- two arrivals are a period apart
pub arrivals_apart : (a b : ℕ) (t : Stream) → 0 < t.period → a < b → IsArrival a t → IsArrival b t
    → a + t.period ≤ b
arrivals_apart a b t some less x y =
    let d : (a - t.first) + t.period ≤ b - t.first =
    apart (a - t.first) (b - t.first) t.period some (omega (arith, x.from, y.from)) x.whole
    y.whole in
    omega (arith, x.from, y.from)

-- ---- the number of an arrival
-- the first has the number 0
first_is : (first period k time : ℕ) → 0 < period → time ≡ first + k * period
    → (time == first) ≡ (k == 0)
first_is first period k time some is = elim (cases_eq k 0) [
  | inl none ↦
      let nothing : k * period ≡ 0 * period = ap (λ x. x * period) none in
      eq-eqb time first (omega arith) ∙ sym (eq-eqb k 0 none)
  | inr later ↦
      let more : period * 1 ≤ period * k = mul-le-mul_left period (omega arith) in
      let ne : time ≡ first → ⊥ = λ same. omega arith in
      ne_eqb time first ne ∙ sym (ne_eqb k 0 later)
]

pub number_of : (time : ℕ) (t : Stream) → 0 < t.period → IsArrival time t → (k : ℕ)
    × (time ≡ arrival_of t k) × ((time == t.first) ≡ (k == 0))
number_of time t some a =
    let d : ℕ = time - t.first in
    let e : t.period * (d / t.period) + d % t.period ≡ d = div-add-mod d t.period in
    let w : d % t.period ≡ 0 = a.whole in
    let is : time ≡ t.first + (d / t.period) * t.period = omega (arith, a.from) in
    (d / t.period, is, first_is t.first t.period (d / t.period) time some is)

pub numbered : (t : Stream) (k : ℕ) → 0 < t.period → IsArrival (arrival_of t k) t
    × ((arrival_of t k == t.first) ≡ (k == 0))
numbered t k some =
    let back : arrival_of t k - t.first ≡ k * t.period = omega arith in (
      record { from = omega arith; whole = ap (λ x. x % t.period) back ∙ mul-mod_left k t.period },
      first_is t.first t.period k (arrival_of t k) some refl,
    )
