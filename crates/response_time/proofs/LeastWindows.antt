-- A window below which none covers its demand.
use Rattle.std.proofs.Common.{◌≡◌, ℕ, inl, inr, ◌+◌, ◌-◌, ◌*◌, ◌/◌, ◌<◌, ◌≤◌, List, length, take}
use Rattle.std.proofs.Common.{get_or, sum_by, arith}
use Rattle.std.proofs.lemmas.Bool.{cases_lt}
use Rattle.std.proofs.lemmas.List.{take_more}
use Rattle.std.proofs.lemmas.List.Sums.{sum_by_push}
use Rattle.std.proofs.lemmas.Grind.{div_ceil_times}
use Rattle.std.proofs.Math.Nat.{mul-le-mul_left, mul-le-mul_right, div-mul-le_self}
use Rattle.std.specs.Int.{div_ceil}
use Rattle.task_sheet.proofs.Releases.{div_ceil-le}
use Rattle.response_time.specs.Workload.{ShareData, share_within}

-- what a share takes of each window at least, in parts of the whole
pub parts-le : (cost period jitter time whole : ℕ) → 0 < period
    → time * (cost * whole / period) ≤ whole * (div_ceil (time + jitter) period * cost)
parts-le cost period jitter time whole pos =
    let n = div_ceil (time + jitter) period in
    let q = cost * whole / period in
    let up : time ≤ n * period = omega (arith, (div_ceil_times (time + jitter) period pos).0) in
    let down : q * period ≤ cost * whole = div-mul-le_self (cost * whole) period in
    let one : time * q ≤ n * period * q = mul-le-mul_right q up in
    let two : n * (q * period) ≤ n * (cost * whole) = mul-le-mul_left n down in
    omega (arith, one, two)

-- what a share takes once
positive_count : (n period time : ℕ) → time ≤ n * period → 1 ≤ time → 1 ≤ n
positive_count n period time up some = elim (cases_lt 0 n) [
  | inl lt ↦ omega arith
  | inr none ↦ let nothing : n * period ≤ 0 * period = mul-le-mul_right period none in
      absurd (omega (arith, up, nothing, some))
]

pub once-le : (s : ShareData) (time : ℕ) → 0 < s.period → 1 ≤ time → s.cost ≤ share_within time s
once-le s time pos some =
    let up : time ≤ div_ceil (time + s.jitter) s.period * s.period =
    omega (arith, (div_ceil_times (time + s.jitter) s.period pos).0) in
    let one = positive_count (div_ceil (time + s.jitter) s.period) s.period time up some in
    omega (arith, mul-le-mul_right s.cost one)

-- one share more
pub share_more : (time i : ℕ) (shares : List ShareData) (s : ShareData) → i < length shares
    → s ≡ get_or shares i s → sum_by (share_within time) (take (i + 1) shares)
    ≡ sum_by (share_within time) (take i shares) + share_within time s
share_more time i shares s lt is =
    rw (take_more shares i s lt, ← is) (sum_by_push (share_within time) (take i shares) s)

-- a window that covers its demand is no less than what the shares leave of it allows
left_over : (always parts rest work time : ℕ) → time * parts + (parts + rest) * always
    ≤ (parts + rest) * work → work ≤ time → always * (parts + rest) ≤ time * rest
left_over always parts rest work time h le = omega (arith, h, mul-le-mul_left (parts + rest) le)

pub window-least : (whole always parts work time : ℕ) → parts < whole
    → time * parts + whole * always ≤ whole * work → work ≤ time
    → div_ceil (always * whole) (whole - parts) ≤ time
window-least whole always parts work time lt h le =
    let e : parts + (whole - parts) ≡ whole = omega arith in
    div_ceil-le (always * whole) (whole - parts) time (omega arith)
    (rw e at (left_over always parts (whole - parts) work time (rw e h) le))
