-- The verdict of a set: its best order with what shows it best, or its greatest obstruction with what shows it stuck.
use Rattle.std.specs.Prelude.{◌≡◌, ℕ, ◌<◌, List, [], ◌∷◌, length, map, IsTrue, IsFalse}
use Rattle.task_sheet.specs.Sheet.{Task, task_at}
use Rattle.task_sheet.specs.Indexes.{Indexes, without_index, among, listed_below}
use Rattle.task_sheet.specs.Responses.{IsFullChain}
use Rattle.task_sheet.specs.Demand.{demand_of, limit_of, IsResponseOf}
use Rattle.task_sheet.specs.Orders.{all_of, must_outrank, must_outrank_any, IsBest}
use Rattle.task_sheet.specs.Levels.{IsGreatestObstruction}

-- why a task may not stand where it was asked: the numbers of a chain, or a task above it that it must outrank
pub data ReasonData : Type 0 where
  Chain : (numbers : List ℕ) → ReasonData
  Over : (other : ℕ) → ReasonData

-- a task that may not stand where it was asked, and what shows it
pub record FailureData : Type 0 where
  pub task : ℕ
  pub reason : ReasonData

-- a level: its task with the response, and the failures of the remaining tasks of smaller rank
pub record LevelData : Type 0 where
  pub task : ℕ
  pub response : ℕ
  pub fails : List FailureData

-- a verdict: an order, level by level, or the members of an obstruction
pub data VerdictData : Type 0 where
  Admitted : (levels : List LevelData) → VerdictData
  Infeasible : (members : List FailureData) → VerdictData

-- the tasks that fail, in their order
abbrev pub tasks_of : List FailureData → List ℕ
tasks_of fails = map (λ f. f.task) fails

-- the tasks of levels, lowest first
abbrev pub order_of : List LevelData → List ℕ
order_of levels = map (λ l. l.task) levels

-- of the tasks of H above which task i must stand, k is the one of least rank
pub record IsLeastOver (U : List Task) (i : ℕ) (H : Indexes) (k : ℕ) : Type 0 where
  pub in_set : k < length U
  pub above : IsTrue (H k)
  pub named : IsTrue (must_outrank U i k)
  pub least : (j : ℕ) → j < k → IsTrue (H j) → IsFalse (must_outrank U i j)

-- why task i may not stand below H: the least-ranked task of H that it must outrank, where there is one, else its full
-- chain
abbrev pub IsReason : List Task → ℕ → Indexes → ReasonData → Type 0
IsReason U i H (Chain numbers) =
    IsFalse (must_outrank_any U i H) × IsFullChain (demand_of U i H) (limit_of (task_at U i)) numbers
IsReason U i H (Over other) = IsLeastOver U i H other

-- the task fails below the others of L, for its reason
abbrev pub IsFailure : List Task → Indexes → FailureData → Type 0
IsFailure U L f = IsReason U f.task (without_index L f.task) f.reason

-- each of these tasks fails below the others of L
abbrev pub AllFailures : List Task → Indexes → List FailureData → Type 0
AllFailures U L [] = Unit {0}
AllFailures U L (f ∷ fails) = IsFailure U L f × AllFailures U L fails

-- the level's response, and the failures of the tasks of L of smaller rank, by rank, and of no others
pub record IsLevel (U : List Task) (L : Indexes) (level : LevelData) : Type 0 where
  pub response : IsResponseOf U level.task (without_index L level.task) level.response
  pub lesser : tasks_of level.fails ≡ listed_below level.task L
  pub fails : AllFailures U L level.fails

-- each level is right, from the lowest up
abbrev pub AllLevels : List Task → Indexes → List LevelData → Type 0
AllLevels U L [] = Unit {0}
AllLevels U L (level ∷ levels) = IsLevel U L level × AllLevels U (without_index L level.task) levels

-- the best order, level by level
pub record IsBestOrder (U : List Task) (levels : List LevelData) : Type 0 where
  pub best : IsBest U (order_of levels)
  pub each : AllLevels U (all_of U) levels

-- the members of the greatest obstruction by rank, each with the reason why it fails below the others
pub record IsStuck (U : List Task) (members : List FailureData) : Type 0 where
  pub greatest : IsGreatestObstruction U (among (tasks_of members))
  pub ranked : tasks_of members ≡ listed_below (length U) (among (tasks_of members))
  pub fails : AllFailures U (among (tasks_of members)) members

-- the verdict of a set
abbrev pub IsVerdictOf : List Task → VerdictData → Type 0
IsVerdictOf U (Admitted levels) = IsBestOrder U levels
IsVerdictOf U (Infeasible members) = IsStuck U members
