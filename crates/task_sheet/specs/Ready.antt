-- Ready certificates: facts about numbers that show an order best, or that there is none.
use Rattle.std.specs.Prelude.{◌≡◌, ℕ, ◌<◌, ◌≤◌, List, [], ◌∷◌, length, IsTrue, IsFalse}
use Rattle.task_sheet.specs.Sheet.{Task, task_at}
use Rattle.task_sheet.specs.Indexes.{Indexes, IsPart, without_index, among, listed_below}
use Rattle.task_sheet.specs.Responses.{IsChain}
use Rattle.task_sheet.specs.Demand.{past_jitter, demand_of, limit_of}
use Rattle.task_sheet.specs.Orders.{all_of, must_outrank, must_outrank_any, IsOrder, IsOrderOf}
use Rattle.task_sheet.specs.Verdicts.{ReasonData, Chain, Over, FailureData, LevelData, tasks_of, order_of}

-- the reason shows that task i may not stand below H: its numbers are a chain, or it is a task of H that i must outrank
abbrev pub Refutes : List Task → ℕ → Indexes → ReasonData → Type 0
Refutes U i H (Chain numbers) = IsChain (demand_of U i H) (limit_of (task_at U i)) numbers
Refutes U i H (Over other) = (other < length U) × IsTrue (H other) × IsTrue (must_outrank U i other)

-- the task's reason refutes it below the others of L
abbrev pub IsRefuted : List Task → Indexes → FailureData → Type 0
IsRefuted U L f = Refutes U f.task (without_index L f.task) f.reason

-- each of these tasks is refuted below the others of L
abbrev pub AllRefuted : List Task → Indexes → List FailureData → Type 0
AllRefuted U L [] = Unit {0}
AllRefuted U L (f ∷ fails) = IsRefuted U L f × AllRefuted U L fails

-- the time of a level: its response past its task's jitter
abbrev pub time_of : List Task → LevelData → ℕ
time_of U level = past_jitter (task_at U level.task) level.response

-- a time from 1 to the limit that covers its demand, no other task of L that it must outrank, and what refutes each
-- task of L of smaller rank, and no other
pub record IsReadyLevel (U : List Task) (L : Indexes) (level : LevelData) : Type 0 where
  pub positive : 1 ≤ time_of U level
  pub within : time_of U level ≤ limit_of (task_at U level.task)
  pub covers : demand_of U level.task (without_index L level.task)
      (time_of U level) ≤ time_of U level
  pub unbound : IsFalse (must_outrank_any U level.task (without_index L level.task))
  pub lesser : tasks_of level.fails ≡ listed_below level.task L
  pub refuted : AllRefuted U L level.fails

-- each level is ready, from the lowest up
abbrev pub AllReady : List Task → Indexes → List LevelData → Type 0
AllReady U L [] = Unit {0}
AllReady U L (level ∷ levels) =
    IsReadyLevel U L level × AllReady U (without_index L level.task) levels

-- an order, each of whose levels is ready
pub record IsReadyOrder (U : List Task) (levels : List LevelData) : Type 0 where
  pub each_once : IsOrder U (order_of levels)
  pub ready : AllReady U (all_of U) levels

-- some distinct tasks of the set, each refuted below the others of them
pub record IsReadySet (U : List Task) (members : List FailureData) : Type 0 where
  pub within : IsPart (among (tasks_of members)) (all_of U)
  pub some : (k : ℕ) × IsTrue (among (tasks_of members) k)
  pub distinct : IsOrderOf (among (tasks_of members)) (tasks_of members)
  pub refuted : AllRefuted U (among (tasks_of members)) members
