-- What becomes of an order and of a chain in it.
use Rattle.std.specs.Prelude.{ℕ, List}
use Rattle.task_sheet.specs.Sheet.{Task}
use Rattle.task_sheet.specs.Orders.{IsPassingOrder}
use Rattle.chains.specs.declared.bounds.Writes.{Writes}
use Rattle.chain_limits.specs.Reaches.{IsMetIn}
use Rattle.chain_limits.specs.declared.reaches.Standing.{Standing}
use Rattle.chain_limits.specs.declared.reaches.Standing.TheVariants.{Fails, Misses, Meets}

-- the order doesn't pass; or it does, and the chain's bound is past its limit; or within
abbrev pub IsStanding : Writes → (offsets order tasks : List ℕ) → (limit : ℕ) → List Task → Standing → Type 0
IsStanding writes offsets order tasks limit V Fails = ¬ IsPassingOrder V order
IsStanding writes offsets order tasks limit V Misses =
    IsPassingOrder V order × (¬ IsMetIn writes offsets order tasks limit V)
IsStanding writes offsets order tasks limit V Meets = IsMetIn writes offsets order tasks limit V
