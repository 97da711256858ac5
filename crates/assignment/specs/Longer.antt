-- Which of two tasks is tried.
use Rattle.std.specs.Prelude.{ℕ, Bool, true, nat_lt, List, Option, Some, None}
use Rattle.task_sheet.specs.Sheet.{Task, task_at}
use Rattle.task_sheet.specs.Demand.{limit_of}

-- a task has a longer limit than the one that was found, or is the first
abbrev pub is_longer : List Task → Option ℕ → ℕ → Bool
is_longer U (Some other) i = nat_lt (limit_of (task_at U other)) (limit_of (task_at U i))
is_longer U None i = true
