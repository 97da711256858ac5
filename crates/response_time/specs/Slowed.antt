-- All execution of a set taken so many thousandths of itself, as on a slower processor.
use Rattle.std.specs.Prelude.{ℕ, ◌*◌, ◌≤◌, List}
use Rattle.task_sheet.specs.Sheet.{Task, task_at}
use Rattle.task_sheet.specs.Indexes.{Indexes}
use Rattle.task_sheet.specs.Demand.{limit_of, demand_of}

-- task i passes with the tasks H above it where all execution takes so many thousandths: some time from 1 to its limit
-- covers as much of its demand
abbrev pub PassesAt : (factor : ℕ) → List Task → ℕ → Indexes → Type 0
PassesAt factor U i H =
    (t : ℕ) × (1 ≤ t) × (t ≤ limit_of (task_at U i)) × (factor * demand_of U i H t ≤ 1000 * t)
