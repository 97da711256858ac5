-- A set with its best order, or with the members of its greatest obstruction (Audsley 1991).
use Rattle.std.specs.Prelude.{◌≡◌, ℕ, List, length}
use Rattle.task_sheet.specs.Sheet.{Task}
use Rattle.task_sheet.specs.Indexes.{among, listed_below}
use Rattle.task_sheet.specs.Levels.{IsGreatestObstruction}
use Rattle.assignment.specs.Places.{PlaceData}

-- a set and its best order, the lowest first, each task with its response
pub record BestOrderData : Type 0 where
  pub set : List Task
  pub places : List PlaceData

-- a set and the members of its greatest obstruction, by rank
pub record StuckSetData : Type 0 where
  pub set : List Task
  pub members : List ℕ

-- these are the members of the greatest obstruction, by rank
pub record AreStuck (U : List Task) (members : List ℕ) : Type 0 where
  pub greatest : IsGreatestObstruction U (among members)
  pub ranked : members ≡ listed_below (length U) (among members)
