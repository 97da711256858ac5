-- Passing with all execution slowed down: with lesser factors, and as it stands.
use Rattle.std.proofs.Common.{◌↔◌, ℕ, ◌*◌, ◌≤◌, List, arith}
use Rattle.std.proofs.Math.Nat.{mul-le-mul}
use Rattle.task_sheet.proofs.Common.{Task, Indexes, Passes}
use Rattle.response_time.specs.Slowed.{PassesAt}

-- so many thousandths of a demand are covered
abbrev pub Slowed : (factor need time : ℕ) → Type 0
Slowed factor need time = factor * need ≤ 1000 * time

pub slowed-less : (low high : ℕ) → low ≤ high → (need more time : ℕ) → need ≤ more → Slowed high more time
    → Slowed low need time
slowed-less low high le need more time less covered = omega (arith, mul-le-mul le less, covered)

pub slowed-eased : (factor low high time : ℕ) → low ≤ high → Slowed factor high time → Slowed factor low time
slowed-eased factor = slowed-less factor factor (omega arith)

pub PassesAt-own : (U : List Task) (i : ℕ) (H : Indexes) → Passes U i H ↔ PassesAt 1000 U i H
PassesAt-own U i H = (
  λ (t, positive, within, covers). (t, positive, within, omega (arith, covers)),
  λ (t, positive, within, covers). (t, positive, within, omega (arith, covers)),
)
