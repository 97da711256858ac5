-- The demand of a task in a window: its cost and blocking, and what the tasks above, timers and interrupts take.
use Rattle.std.specs.Prelude.{ℕ, ◌+◌, List}
use Rattle.task_sheet.specs.Sheet.{Task}
use Rattle.task_sheet.specs.Indexes.{Indexes}
use Rattle.task_sheet.specs.Demand.{interference_within, interrupts_within}

-- the demand of this base below the tasks H
abbrev pub demand_from : List Task → Indexes → ℕ → ℕ → ℕ
demand_from U H base time = base + interference_within U H time + interrupts_within U time
