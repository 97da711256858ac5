-- The best order with its responses, or the greatest obstruction, without what shows them (Audsley
-- 1991).
use Rattle.std.specs.Prelude.{◌≡◌, ℕ, List, [], ◌∷◌, length, map}
use Rattle.task_sheet.specs.Sheet.{Task}
use Rattle.task_sheet.specs.Indexes.{Indexes, indexes_of, without_index, listed_below}
use Rattle.task_sheet.specs.Demand.{IsResponseOf}
use Rattle.task_sheet.specs.Orders.{all_of, IsBest}
use Rattle.task_sheet.specs.Levels.{IsGreatestObstruction}
use Rattle.task_sheet.specs.Verdicts.{LevelData, VerdictData, Admitted, Infeasible, tasks_of}
use Rattle.assignment.specs.Places.{PlaceData}
use Rattle.assignment.specs.declared.placing.Placing.{Placing}
use Rattle.assignment.specs.declared.placing.Placing.TheVariants.{Best, Stuck}

-- the tasks of places, lowest first
abbrev pub tasks_of_places : List PlaceData → List ℕ
tasks_of_places places = map (λ p. p.task) places

-- each has its response below the others of L that stand above it, from the lowest up
abbrev pub AllRespond : List Task → Indexes → List PlaceData → Type 0
AllRespond U L [] = Unit {0}
AllRespond U L (p ∷ places) =
    IsResponseOf U p.task (without_index L p.task) p.response
    × AllRespond U (without_index L p.task) places

-- the best order, each task with its response
pub record IsBestPlacing (U : List Task) (places : List PlaceData) : Type 0 where
  pub best : IsBest U (tasks_of_places places)
  pub each : AllRespond U (all_of U) places

-- the best order with its responses, or the greatest obstruction
abbrev pub IsPlacingOf : List Task → Placing → Type 0
IsPlacingOf U (Best places) = IsBestPlacing U places.items
IsPlacingOf U (Stuck members) = IsGreatestObstruction U (indexes_of members)

-- the places of levels: each task with its response
abbrev pub places_of : List LevelData → List PlaceData
places_of levels = map (λ l. record { task = l.task; response = l.response }) levels

-- a placing says what a verdict on the set says, without what shows it: the order with its
-- responses, or the members
abbrev pub SaysSame : List Task → VerdictData → Placing → Type 0
SaysSame U (Admitted levels) (Best places) = places.items ≡ places_of levels
SaysSame U (Infeasible members) (Stuck left) = tasks_of members
    ≡ listed_below (length U) (indexes_of left)
SaysSame U _ _ = ⊥
