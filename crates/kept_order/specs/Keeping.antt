-- Orders that keep another one, so that who is deployed anew changes no more than he must. They are lists of indexes,
-- lowest first; the other one need not have all tasks of the set.
use Rattle.std.specs.Prelude.{◌≡◌, ℕ, ◌<◌, ◌==◌, ◌&&◌, ◌||◌, Bool, false, List, [], ◌∷◌, ◌++◌, IsTrue, IsFalse}
use Rattle.task_sheet.specs.Sheet.{Task}
use Rattle.task_sheet.specs.Indexes.{Indexes, indexes_of, without_index, among}
use Rattle.task_sheet.specs.Orders.{all_of, Stands, IsPassingOrder, IsBetter}
use Rattle.task_sheet.specs.Levels.{IsGreatestObstruction}
use Rattle.assignment.specs.Places.{PlaceData}
use Rattle.assignment.specs.Placings.{tasks_of_places, AllRespond}
use Rattle.kept_order.specs.declared.Keeping.{Keeping}
use Rattle.kept_order.specs.declared.Keeping.TheVariants.{Kept, Parted, Stuck}

-- in a list of tasks, i stands somewhere below k
abbrev pub stands_below : List ℕ → ℕ → ℕ → Bool
stands_below [] i k = false
stands_below (x ∷ above) i k = ((x == i) && among above k) || stands_below above i k

-- an order keeps another one: no two tasks of that stand the other way round
abbrev pub Keeps : (kept order : List ℕ) → Type 0
Keeps kept order = (i k : ℕ) → IsTrue (stands_below kept i k) → IsFalse (stands_below order k i)

-- an order of the set that passes and keeps another one
pub record IsPassingKept (U : List Task) (kept order : List ℕ) : Type 0 where
  pub passing : IsPassingOrder U order
  pub keeps : Keeps kept order

-- one than which no other such is better
pub record IsBestKept (U : List Task) (kept order : List ℕ) : Type 0 where
  pub passing : IsPassingKept U kept order
  pub unbeaten : (other : List ℕ) → IsPassingKept U kept other → ¬ IsBetter other order

-- it with its responses
pub record IsKeptPlacing (U : List Task) (kept : List ℕ) (places : List PlaceData) : Type 0 where
  pub best : IsBestKept U kept (tasks_of_places places)
  pub each : AllRespond U (all_of U) places

-- the first pair that has to change: some order that passes keeps the list from its lowest up to one of them, and none
-- keeps it up to the next above
pub record IsFirstParted (U : List Task) (kept : List ℕ) (low high : ℕ) : Type 0 where
  pub below : List ℕ
  pub above : List ℕ
  pub parts : kept ≡ below ++ low ∷ high ∷ above
  pub some : (order : List ℕ) × IsPassingKept U (below ++ low ∷ []) order
  pub none : (order : List ℕ) → ¬ IsPassingKept U (below ++ low ∷ high ∷ []) order

-- the best order that keeps another one; or the first pair that has to change; or, where no order passes, the greatest
-- obstruction
abbrev pub IsKeepingOf : List Task → List ℕ → Keeping → Type 0
IsKeepingOf U kept (Kept places) = IsKeptPlacing U kept places.items
IsKeepingOf U kept (Parted low high) = IsFirstParted U kept low high
IsKeepingOf U kept (Stuck members) = IsGreatestObstruction U (indexes_of members)

-- ---- level by level
-- a task of H stands below i in a list
abbrev pub is_held : List ℕ → Indexes → ℕ → Bool
is_held [] H i = false
is_held (x ∷ above) H i = (H x && among above i) || is_held above H i

-- task i may stand below the tasks H, and none of them stands below it in the list
abbrev pub StandsKept : List Task → List ℕ → ℕ → Indexes → Type 0
StandsKept U kept i H = Stands U i H × IsFalse (is_held kept H i)

-- none of the tasks L may
abbrev pub NoneStandsKept : List Task → List ℕ → Indexes → Type 0
NoneStandsKept U kept L = (i : ℕ) → IsTrue (L i) → ¬ StandsKept U kept i (without_index L i)

-- of the tasks L the one of least rank that may
pub record IsChosenKept (U : List Task) (kept : List ℕ) (L : Indexes) (i : ℕ) : Type 0 where
  pub member : IsTrue (L i)
  pub stands : StandsKept U kept i (without_index L i)
  pub first : (j : ℕ) → j < i → IsTrue (L j) → ¬ StandsKept U kept j (without_index L j)
