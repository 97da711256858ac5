-- Sums and comparisons of fractions by digits.
use Rattle.std.proofs.Common.{◌≡◌, ◌∙◌, ◌+◌, ◌-◌, ◌*◌, ◌/◌, ◌%◌, ◌<◌, ◌≤◌, ℕ, zero, suc, inl, inr, List, [], ◌∷◌}
use Rattle.std.proofs.Common.{◌++◌, length, drop, get_or, ap, refl, sym, subst, arith}
use Rattle.std.proofs.Math.Nat.{mul-le-mul_left, mul-le-mul_right}
use Rattle.std.proofs.lemmas.Nat.{div-add-mod', mod_below}
use Rattle.std.proofs.lemmas.Bool.{cases_order}
use Rattle.std.proofs.lemmas.List.{drop_more}
use Rattle.std.proofs.lemmas.List.Elements.{All-append, All-cons, All-head, All-nil, All-tail}
use Rattle.std.specs.Int.{div_ceil}
use Rattle.std.proofs.lemmas.Grind.{div_ceil_times}
use Rattle.loads.specs.Digits.{AreDigits, IsDigit, bottom_of, top_of}
use Rattle.loads.specs.declared.shares.Digit.{Digit}

-- ---- digits in front of a number
-- the number whose lowest digits these are, and which has this above them
abbrev pub top_before : List Digit → ℕ → ℕ
top_before [] high = high
top_before (d ∷ ds) high = d.top + 4294967296 * top_before ds high

abbrev pub bottom_before : List Digit → ℕ → ℕ
bottom_before [] high = high
bottom_before (d ∷ ds) high = d.bottom + 4294967296 * bottom_before ds high

pub top_push : (ds : List Digit) (d : Digit) (high : ℕ)
    → top_before (ds ++ d ∷ []) high ≡ top_before ds (d.top + 4294967296 * high)
top_push [] d high = refl
top_push (e ∷ ds) d high = omega (arith, top_push ds d high)

pub bottom_push : (ds : List Digit) (d : Digit) (high : ℕ)
    → bottom_before (ds ++ d ∷ []) high ≡ bottom_before ds (d.bottom + 4294967296 * high)
bottom_push [] d high = refl
bottom_push (e ∷ ds) d high = omega (arith, bottom_push ds d high)

pub top_whole : (ds : List Digit) → top_before ds 0 ≡ top_of ds
top_whole [] = refl
top_whole (d ∷ ds) = omega (arith, top_whole ds)

pub bottom_whole : (ds : List Digit) → bottom_before ds 0 ≡ bottom_of ds
bottom_whole [] = refl
bottom_whole (d ∷ ds) = omega (arith, bottom_whole ds)

-- ---- one digit more
pub top_step : (ds : List Digit) (d e : Digit) (rest : List Digit) (p c carry t : ℕ)
    → t ≡ d.top * p + d.bottom * c + carry → e.top ≡ t % 4294967296
    → top_before (ds ++ e ∷ []) (t / 4294967296 + (top_of rest * p + bottom_of rest * c))
    ≡ top_before ds (carry + (top_of (d ∷ rest) * p + bottom_of (d ∷ rest) * c))
top_step ds d e rest p c carry t is low =
    let same : e.top + 4294967296 * (t / 4294967296 + (top_of rest * p + bottom_of rest * c))
    ≡ carry + ((d.top + 4294967296 * top_of rest) * p
    + (d.bottom + 4294967296 * bottom_of rest) * c) = omega arith in
    top_push ds e _ ∙ ap (top_before ds) same

pub bottom_step : (ds : List Digit) (d e : Digit) (rest : List Digit) (p carry t : ℕ)
    → t ≡ d.bottom * p + carry → e.bottom ≡ t % 4294967296
    → bottom_before (ds ++ e ∷ []) (t / 4294967296 + bottom_of rest * p)
    ≡ bottom_before ds (carry + bottom_of (d ∷ rest) * p)
bottom_step ds d e rest p carry t is low =
    let same : e.bottom + 4294967296 * (t / 4294967296 + bottom_of rest * p)
    ≡ carry + (d.bottom + 4294967296 * bottom_of rest) * p = omega arith in
    bottom_push ds e _ ∙ ap (bottom_before ds) same

-- what is carried on stays small
pub top_carried : (d : Digit) (p c carry : ℕ) → IsDigit d → p ≤ 10000000 → c ≤ 10000000
    → carry ≤ 20000000 → (d.top * p + d.bottom * c + carry) / 4294967296 ≤ 20000000
top_carried d p c carry digit less short small =
    let one : d.top * p ≤ d.top * 10000000 = mul-le-mul_left d.top less in
    let two : d.bottom * c ≤ d.bottom * 10000000 = mul-le-mul_left d.bottom short in
    omega (arith, one, two, digit.top, digit.bottom)

pub bottom_carried : (d : Digit) (p carry : ℕ) → IsDigit d → p ≤ 10000000
    → carry ≤ 10000000 → (d.bottom * p + carry) / 4294967296 ≤ 10000000
bottom_carried d p carry digit less small =
    let one : d.bottom * p ≤ d.bottom * 10000000 = mul-le-mul_left d.bottom less in
    omega (arith, one, digit.bottom)

-- what the digits are multiplied by fits
pub part_fits : (x p : ℕ) → x < 4294967296 → p ≤ 10000000 → x * p ≤ 42949672960000000
part_fits x p digit less =
    let one : x * p ≤ x * 10000000 = mul-le-mul_left x less in
    omega (arith, one, digit)

pub low_digit : (t s : ℕ) → IsDigit (record { top = t % 4294967296; bottom = s % 4294967296 })
low_digit t s = record { top = omega arith; bottom = omega arith }

pub digits_push : (ds : List Digit) (d : Digit) → AreDigits ds → IsDigit d
    → AreDigits (ds ++ d ∷ [])
digits_push ds d all digit =
    All-append IsDigit ds (d ∷ []) all (All-cons IsDigit d [] digit (All-nil IsDigit))

-- the last one
pub top_end : (ds : List Digit) (d : Digit) (p c total : ℕ)
    → top_before ds (d.top + (top_of [] * p + bottom_of [] * c)) ≡ total
    → top_of (ds ++ d ∷ []) ≡ total
top_end ds d p c total is =
    let same : d.top + 4294967296 * 0 ≡ d.top + (0 * p + 0 * c) = omega arith in
    sym (top_whole (ds ++ d ∷ [])) ∙ top_push ds d 0 ∙ ap (top_before ds) same ∙ is

pub bottom_end : (ds : List Digit) (d : Digit) (p total : ℕ)
    → bottom_before ds (d.bottom + bottom_of [] * p) ≡ total → bottom_of (ds ++ d ∷ []) ≡ total
bottom_end ds d p total is =
    let same : d.bottom + 4294967296 * 0 ≡ d.bottom + 0 * p = omega arith in
    sym (bottom_whole (ds ++ d ∷ [])) ∙ bottom_push ds d 0 ∙ ap (bottom_before ds) same ∙ is

-- ---- what the highest digits decide
pub below_stays : (n i : ℕ) (ds : List Digit) → AreDigits ds
    → top_of (drop i ds) < n * bottom_of (drop i ds) → top_of ds < n * bottom_of ds
below_stays n zero ds all less = less
below_stays n (suc i) [] all less = less
below_stays n (suc i) (d ∷ ds) all less =
    let digit = All-head IsDigit d ds all in
    let more = below_stays n i ds (All-tail IsDigit d ds all) less in
    omega (arith, digit.top, more)

pub above_stays : (n i : ℕ) (ds : List Digit) → AreDigits ds
    → n * bottom_of (drop i ds) + n < top_of (drop i ds) → n * bottom_of ds + n < top_of ds
above_stays n zero ds all more = more
above_stays n (suc i) [] all more = more
above_stays n (suc i) (d ∷ ds) all more =
    let digit = All-head IsDigit d ds all in
    let rest = above_stays n i ds (All-tail IsDigit d ds all) more in
    let bound : n * suc d.bottom ≤ n * 4294967296 = mul-le-mul_left n digit.bottom in
    omega (arith, bound, rest)

drop_before : (ds : List Digit) (i : ℕ) (d : Digit) → 1 ≤ i → i ≤ length ds
    → drop (i - 1) ds ≡ get_or ds (i - 1) d ∷ drop i ds
drop_before ds i d some within =
    let next : i - 1 + 1 ≡ i = omega arith in
    drop_more ds (i - 1) d (omega arith) ∙ ap (λ k. get_or ds (i - 1) d ∷ drop k ds) next

pub digit_below : (n i e : ℕ) (ds : List Digit) (d : Digit) → AreDigits ds → 1 ≤ i → i ≤ length ds
    → top_of (drop i ds) ≡ e + n * bottom_of (drop i ds)
    → e * 4294967296 + (get_or ds (i - 1) d).top < n * (get_or ds (i - 1) d).bottom
    → top_of ds < n * bottom_of ds
digit_below n i e ds d all some within rest less =
    below_stays n (i - 1) ds all (rw (drop_before ds i d some within) (omega arith))

pub digit_above : (n i e : ℕ) (ds : List Digit) (d : Digit) → AreDigits ds → 1 ≤ i → i ≤ length ds
    → top_of (drop i ds) ≡ e + n * bottom_of (drop i ds)
    → n < e * 4294967296 + (get_or ds (i - 1) d).top - n * (get_or ds (i - 1) d).bottom
    → n * bottom_of ds < top_of ds
digit_above n i e ds d all some within rest more =
    omega (
      arith,
      above_stays n (i - 1) ds all (rw (drop_before ds i d some within) (omega arith)),
    )

pub digit_next : (n i e : ℕ) (ds : List Digit) (d : Digit) → 1 ≤ i → i ≤ length ds
    → top_of (drop i ds) ≡ e + n * bottom_of (drop i ds)
    → n * (get_or ds (i - 1) d).bottom ≤ e * 4294967296 + (get_or ds (i - 1) d).top
    → top_of (drop (i - 1) ds) ≡ e * 4294967296 + (get_or ds (i - 1) d).top
    - n * (get_or ds (i - 1) d).bottom + n * bottom_of (drop (i - 1) ds)
digit_next n i e ds d some within rest fits =
    rw (drop_before ds i d some within) (omega arith)

-- ---- rounded up
pub least_is : (t b n : ℕ) → 0 < b → t ≤ n * b → n * b < t + b → n ≡ div_ceil t b
least_is t b n some over least =
    let bounds = div_ceil_times t b some in
    equal n (div_ceil t b) (omega (arith, bounds.0, least)) (omega (arith, bounds.1, over))
  where
    equal : (n q : ℕ) → n * b < q * b + b → q * b < n * b + b → n ≡ q
    equal n q low high = elim (cases_order n q) [
      | inl is ↦ is
      | inr (inl less) ↦
          let more : (n + 1) * b ≤ q * b = mul-le-mul_right b (omega arith) in
          absurd (omega (arith, more))
      | inr (inr less) ↦
          let more : (q + 1) * b ≤ n * b = mul-le-mul_right b (omega arith) in
          absurd (omega (arith, more))
    ]

pub whole_and_rest : (whole t b parts costs periods : ℕ) → 0 < b → b * 1 ≡ periods
    → (whole * b + t) * 1 + b * (0 * parts) ≡ costs → whole + div_ceil t b ≡ div_ceil costs periods
whole_and_rest whole t b parts costs periods some bottom top =
    let bounds = div_ceil_times t b some in
    let is : b ≡ periods = omega arith in
    let sum : whole * b + t ≡ costs = omega arith in
    subst (λ p. whole + div_ceil t b ≡ div_ceil costs p) is
    (least_is costs b (whole + div_ceil t b) some (omega (arith, bounds.0, sum))
    (omega (arith, bounds.1, sum)))

-- ---- a share more
pub share_step : (whole t b p cost rest parts costs all periods : ℕ) → 1 ≤ p
    → b * (p * rest) ≡ periods
    → (whole * b + t) * (p * rest) + b * ((cost * rest + p * costs) * parts) ≡ all
    → ((whole + cost * parts / p) * (b * p) + (t * p + b * (cost * parts % p))) * rest
    + (b * p) * (costs * parts) ≡ all
share_step whole t b p cost rest parts costs all periods some bottom top =
    let split : cost * parts / p * p + cost * parts % p ≡ cost * parts = div-add-mod' (cost * parts) p in
    let times : (cost * parts / p * p + cost * parts % p) * (b * rest) ≡ cost * parts * (b * rest) = ap (λ z. z * (b * rest)) split in
    omega (arith, times)

pub share_short : (i t b p r : ℕ) → t ≤ i * b → r < p → t * p + b * r ≤ (i + 1) * (b * p)
share_short i t b p r short less =
    let one : t * p ≤ i * b * p = mul-le-mul_right p short in
    let two : b * r ≤ b * p = mul-le-mul_left b (omega arith) in
    omega (arith, one, two)

pub share_some : (b p : ℕ) → 0 < b → 1 ≤ p → 0 < b * p
share_some b p some one =
    let more : b * 1 ≤ b * p = mul-le-mul_left b one in
    omega (arith, more)

pub share_small : (p cost parts : ℕ) → 1 ≤ p → cost ≤ 10000000 → parts ≤ 1000000
    → cost * parts / p ≤ 10000000000000
share_small p cost parts some short few =
    let split : cost * parts / p * p + cost * parts % p ≡ cost * parts = div-add-mod' (cost * parts) p in
    let more : cost * parts / p * 1 ≤ cost * parts / p * p = mul-le-mul_left (cost * parts / p) some in
    let one : cost * parts ≤ cost * 1000000 = mul-le-mul_left cost few in
    omega (arith, split, more, one, short)

pub times_fit : (cost parts : ℕ) → cost ≤ 10000000 → parts ≤ 1000000 → cost * parts ≤ 10000000000000
times_fit cost parts short few =
    let one : cost * parts ≤ cost * 1000000 = mul-le-mul_left cost few in
    omega (arith, one, short)

pub rest_fits : (p cost parts : ℕ) → 1 ≤ p → p ≤ 10000000 → cost * parts % p ≤ 10000000
rest_fits p cost parts some short =
    let less : cost * parts % p < p = mod_below (cost * parts) p some in
    omega (arith, less)

pub short_whole : (i t b : ℕ) → t ≤ i * b → i ≤ 1000 → t ≤ 1000 * b
short_whole i t b short few =
    let more : i * b ≤ 1000 * b = mul-le-mul_right b few in
    omega (arith, more)

pub bottom_more : (b p rest periods : ℕ) → b * (p * rest) ≡ periods → b * p * rest ≡ periods
bottom_more b p rest periods is = omega arith
