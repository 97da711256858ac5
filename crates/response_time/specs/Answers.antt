-- What an answer says of a task i of the set U, with the tasks H above it.
use Rattle.std.specs.Prelude.{ℕ, ◌≤◌, List}
use Rattle.task_sheet.specs.Sheet.{Task, task_at}
use Rattle.task_sheet.specs.Indexes.{Indexes}
use Rattle.task_sheet.specs.Responses.{IsFullChain}
use Rattle.task_sheet.specs.Demand.{demand_of, limit_of, IsResponseOf}
use Rattle.response_time.specs.declared.Answer.{Answer}
use Rattle.response_time.specs.declared.Answer.TheVariants.{Pass, Fail}

-- the response, within the deadline, or the full chain, which climbs past the limit
abbrev pub IsAnswer : List Task → ℕ → Indexes → Answer → Type 0
IsAnswer U i H (Pass response) = IsResponseOf U i H response × (response ≤ (task_at U i).deadline)
IsAnswer U i H (Fail chain) = IsFullChain (demand_of U i H) (limit_of (task_at U i)) chain.items
