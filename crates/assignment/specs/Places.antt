-- A task's place in an order.
use Rattle.std.specs.Prelude.{ℕ}

-- a task with its response
pub record PlaceData : Type 0 where
  pub task : ℕ
  pub response : ℕ
