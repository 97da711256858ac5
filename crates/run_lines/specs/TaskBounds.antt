-- The bounds of an order's tasks.
use Rattle.std.specs.Prelude.{ℕ, ◌≤◌, Option, Some, None, List, [], ◌∷◌, map}
use Rattle.task_sheet.specs.Sheet.{Task, task_at}
use Rattle.task_sheet.specs.Indexes.{among}
use Rattle.task_sheet.specs.Demand.{IsResponseOf}
use Rattle.assignment.specs.Places.{PlaceData}
use Rattle.run_lines.specs.declared.bounds.TaskBound.{TaskBound}

-- the tasks, the lowest first
abbrev pub tasks_of_bounds : List TaskBound → List ℕ
tasks_of_bounds bounds = map (λ b. b.task) bounds

-- the tasks of places, whose responses are the bounds
abbrev pub bounds_of : List PlaceData → List TaskBound
bounds_of places = map (λ p. record { task = p.task; bound = Some p.response }) places

-- the bound of a task with these above it, if it has one, is its response, within its deadline
abbrev pub IsBoundBelow : List Task → (above : List ℕ) → (task : ℕ) → Option ℕ → Type 0
IsBoundBelow U above task None = Unit {0}
IsBoundBelow U above task (Some bound) =
    IsResponseOf U task (among above) bound × (bound ≤ (task_at U task).deadline)

-- that of each task, with those after it above it
abbrev pub AreBounds : List Task → List TaskBound → Type 0
AreBounds U [] = Unit {0}
AreBounds U (b ∷ bounds) =
    IsBoundBelow U (tasks_of_bounds bounds) b.task b.bound × AreBounds U bounds
