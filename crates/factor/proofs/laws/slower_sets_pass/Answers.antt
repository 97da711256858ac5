use Rattle.std.proofs.Common.{ℕ, ◌*◌, ◌≤◌, max, arith}
use Rattle.std.proofs.Math.Nat.{mul-add, mul-le-mul, mul-le-mul_left, mul_left_comm}
use Rattle.response_time.proofs.SlowedLaws.{Slowed}
use Rattle.latest_first.proofs.OneOrder.{Covering}
use Rattle.other_numbers.proofs.EasierLaws.{IsKept, demand-easier, PassesWhere-easier, PassesInBy-easier, PassesIn-by}
use Rattle.factor.specs.Factors.{IsAtMost}
use Rattle.factor.proofs.laws.slower_sets_pass.Goals as goal

kept : (f : ℕ) → IsKept (IsAtMost f)
kept f = record {
  none = omega arith;
  add = λ a b x y le le'. omega (arith, le, le', mul-add f x y);
  greatest = λ a b x y le le'.
      let first : f * x ≤ f * max x y = mul-le-mul_left f (omega arith) in
      let second : f * y ≤ f * max x y = mul-le-mul_left f (omega arith) in
      omega (arith, le, le', first, second);
  jobs = λ n m a x fewer le. omega (arith, mul-le-mul fewer le, mul_left_comm n 1000 a, mul_left_comm m f x);
}

eased : (f low high time : ℕ) → IsAtMost f low high → Slowed f high time → Covering low time
eased f low high time le covered = omega (arith, le, covered)

pub returns : goal.returns
returns c = record {
  demand = λ V U f i H t slow. demand-easier (IsAtMost f) (kept f) V U slow i H t;
  passes = λ V U f i H slow. PassesWhere-easier (IsAtMost f) (kept f) V U slow (Slowed f) Covering (eased f) i H;
  order = λ V U f order slow passes. (PassesIn-by order V).1
      (PassesInBy-easier (IsAtMost f) (kept f) V U slow (Slowed f) Covering (eased f) order passes);
}
