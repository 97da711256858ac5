-- For each number the furthest value with which an order passes and a chain's bound in it is within its limit.
use Rattle.std.specs.Prelude.{◌≡◌, ◌↔◌, ℕ, ◌≤◌, List, Option, Some, None, IsTrue}
use Rattle.task_sheet.specs.Sheet.{Task}
use Rattle.task_sheet.specs.Orders.{IsPassingOrder}
use Rattle.chains.specs.Gaps.{gap_of}
use Rattle.chains.specs.Parts.{bound_in, order_of}
use Rattle.chains.specs.declared.bounds.Level.{Level}
use Rattle.chains.specs.declared.bounds.Writes.{Writes}
use Rattle.chains.specs.declared.bounds.Writes.TheVariants.{AtFinish, AtDeadline}
use Rattle.least_chains.specs.LeastBound.{ArePassing}
use Rattle.limits.specs.declared.number.Number.{Number}
use Rattle.limits.specs.declared.number.Number.TheVariants.{Cost, Period, Deadline, Jitter, Len, InterruptCost, InterruptPeriod}
use Rattle.limits.specs.Numbers.{MayHave, numbered, IsNoFurther, IsFurthestFor}
use Rattle.chain_limits.specs.declared.reaches.Reach.{Reach}

-- the order passes, and by its responses the bound of a chain of tasks is within the limit
pub record IsMetIn (writes : Writes) (offsets order tasks : List ℕ) (limit : ℕ) (V : List Task) : Type 0 where
  pub levels : List Level
  pub passing : ArePassing V levels
  pub same : order_of levels ≡ order
  pub bound : ℕ
  pub comes : bound_in writes offsets V levels tasks ≡ Some bound
  pub within : bound ≤ limit

-- two tasks have the same period, and the same deadline where they write then: of a bound these are what no cost, jitter or
-- length moves
abbrev pub HasSameTimes : Writes → Task → Task → Type 0
HasSameTimes AtFinish s t = gap_of s ≡ gap_of t
HasSameTimes AtDeadline s t = (gap_of s ≡ gap_of t) × (s.deadline ≡ t.deadline)

-- a number of which a greater value asks more; it leaves periods and deadlines as they are
abbrev pub Grows : Number → Type 0
Grows Cost = Unit {0}
Grows Period = ⊥
Grows Deadline = ⊥
Grows Jitter = Unit {0}
Grows (Len k along) = Unit {0}
Grows (InterruptCost k) = ⊥
Grows (InterruptPeriod k) = ⊥

-- the furthest value with which the chain is met in the order, all else equal
abbrev pub IsFurthestMet : Writes → (offsets order tasks : List ℕ) → (limit : ℕ) → List Task → ℕ → Number → ℕ → Type 0
IsFurthestMet writes offsets order tasks limit U i number value =
    IsFurthestFor (IsMetIn writes offsets order tasks limit) U i number value

-- with no value it is
abbrev pub NoneMeets : Writes → (offsets order tasks : List ℕ) → (limit : ℕ) → List Task → ℕ → Number → Type 0
NoneMeets writes offsets order tasks limit U i number = (value : ℕ) → MayHave U i number value
    → ¬ IsMetIn writes offsets order tasks limit (numbered U i number value)

-- the order passes with a value that is further: the deadlines don't hold the number there
pub record PassesFurther (order : List ℕ) (U : List Task) (i : ℕ) (number : Number) (value : ℕ)
    : Type 0 where
  pub other : ℕ
  pub may : MayHave U i number other
  pub passing : IsPassingOrder (numbered U i number other) order
  pub further : ¬ IsNoFurther number other value

-- that value, and whether the order passes with a further one; or none where none meets the chain
abbrev pub AnswersReach : Writes → (offsets order tasks : List ℕ) → (limit : ℕ) → List Task → ℕ → Number
    → Option Reach → Type 0
AnswersReach writes offsets order tasks limit U i number None = NoneMeets writes offsets order tasks limit U i number
AnswersReach writes offsets order tasks limit U i number (Some reach) =
    IsFurthestMet writes offsets order tasks limit U i number reach.furthest
    × (IsTrue reach.is_bound ↔ PassesFurther order U i number reach.furthest)
