-- Whether an order passes that is given, or some order where none is.
use Rattle.std.specs.Prelude.{ℕ, List, Option, Some, None}
use Rattle.task_sheet.specs.Sheet.{Task}
use Rattle.task_sheet.specs.Indexes.{Indexes}
use Rattle.task_sheet.specs.Orders.{IsPassingOrder, IsFeasible}
use Rattle.latest_first.specs.Tested.{IsPassingBy, IsFeasibleBy}

-- this order passes, or some order where none is given
abbrev pub PassesIn : Option (List ℕ) → List Task → Type 0
PassesIn (Some order) U = IsPassingOrder U order
PassesIn None U = IsFeasible U

-- the same by another test of a task with those above it
abbrev pub PassesInBy : (Test : ℕ → Indexes → Type 0) → Option (List ℕ) → List Task → Type 0
PassesInBy Test (Some order) U = IsPassingBy Test U order
PassesInBy Test None U = IsFeasibleBy Test U
