-- How many jobs of a task fall into a window, and what they execute.
use Rattle.std.proofs.Common.{◌≡◌, ℕ, ◌+◌, ◌*◌, ◌/◌, ◌<◌, ◌≤◌, inl, inr, ap, arith}
use Rattle.std.specs.Int.{div_ceil}
use Rattle.std.proofs.lemmas.Grind.{common_steps, div_ceil_times}
use Rattle.std.proofs.lemmas.Bool.{cases_eq}
use Rattle.std.proofs.Math.Nat.{mul-le-mul_left, mul-le-mul_right}
use Rattle.task_sheet.proofs.Common.{Task, IsTask, IsValidSheet, releases_within, interference_of}

le-div_ceil-mul : (t p : ℕ) → 0 < p → t ≤ div_ceil t p * p
le-div_ceil-mul t p pos = grind (arith, common_steps)

pub div_ceil-le : (t p m : ℕ) → 0 < p → t ≤ m * p → div_ceil t p ≤ m
div_ceil-le t p m pos le = grind (arith, common_steps)

pub div_ceil-mono : (t s p : ℕ) → t ≤ s → div_ceil t p ≤ div_ceil s p
div_ceil-mono t s p le = elim (cases_eq p 0) [
  | inl e ↦ rw e (omega arith)
  | inr ne ↦
      let pos : 0 < p = omega arith in
      let far = le-div_ceil-mul s p pos in
      div_ceil-le t p (div_ceil s p) pos (omega arith)
]

one-le-div_ceil : (t p : ℕ) → 1 ≤ t → 0 < p → 1 ≤ div_ceil t p
one-le-div_ceil t p pos some =
    elim (cases_eq (t / p) 0) [
      | inl e ↦ let none : p * (t / p) ≡ p * 0 = ap (λ q. p * q) e in omega arith
      | inr ne ↦ omega arith
    ]

-- ---- the releases
pub releases-mono : (x : Task) (t s : ℕ) → IsTask x → t ≤ s
    → releases_within x t ≤ releases_within x s
releases-mono x t s valid le = div_ceil-mono (t + x.jitter) (s + x.jitter) x.period (omega arith)

-- ---- what they execute
pub interference-mono : (x : Task) (t s : ℕ) → IsTask x → t ≤ s
    → interference_of x t ≤ interference_of x s
interference-mono x t s valid le = mul-le-mul_right x.cost (releases-mono x t s valid le)

pub cost-le-interference : (x : Task) (t : ℕ) → 0 < x.period → 1 ≤ t → x.cost ≤ interference_of x t
cost-le-interference x t some pos =
    let once : 1 ≤ releases_within x t =
    one-le-div_ceil (t + x.jitter) x.period (omega arith) some in
    let more : 1 * x.cost ≤ releases_within x t * x.cost = grind arith in
    omega arith

-- what takes no longer than its period takes at most the window and a period
pub taken-fits : (window period each : ℕ) → 0 < period → each ≤ period
    → div_ceil window period * each ≤ window + period
taken-fits window period each some short = omega (
  arith,
  (div_ceil_times window period some).1,
  mul-le-mul_left (div_ceil window period) short,
)

-- within the longest period, under three times that, where each takes no longer than the period
pub jobs-fits : (x : Task) (t each : ℕ) → IsValidSheet x → t ≤ 10000000 → each ≤ x.period
    → releases_within x t * each ≤ 30000000
jobs-fits x t each valid le short = omega (
  arith,
  taken-fits (t + x.jitter) x.period each (omega (arith, valid.period_from)) short,
  valid.period_to,
  valid.jitter,
  valid.deadline_to,
)

pub interference-fits : (x : Task) (t : ℕ) → IsValidSheet x → t ≤ 10000000
    → interference_of x t ≤ 30000000
interference-fits x t valid le = jobs-fits x t x.cost valid le valid.cost_to
