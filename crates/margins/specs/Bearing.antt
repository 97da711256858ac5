-- Orders that bear a further demand on every task (Davis, Burns 2007).
use Rattle.std.specs.Prelude.{ℕ, ◌+◌, List}
use Rattle.task_sheet.specs.Sheet.{Task, task_at}
use Rattle.task_sheet.specs.Indexes.{Indexes}
use Rattle.task_sheet.specs.Responses.{Covers}
use Rattle.task_sheet.specs.Demand.{limit_of, demand_of}
use Rattle.latest_first.specs.Tested.{IsPassingBy}

-- task i passes with the tasks H above it where so much more has to be executed
abbrev pub PassesWith : List Task → ℕ → ℕ → Indexes → Type 0
PassesWith U extra i H = Covers (λ t. demand_of U i H t + extra) (limit_of (task_at U i))

-- an order of the set in which each task bears so much more
abbrev pub Bears : List Task → ℕ → List ℕ → Type 0
Bears U extra order = IsPassingBy (PassesWith U extra) U order
