-- The order in which a task of a minimal conflict is looked at: all others of the conflict stand above it, so that the run
-- in which it misses its deadline shows the conflict.
use Rattle.std.specs.Prelude.{◌≡◌, ℕ, List, ◌∷◌, ◌++◌, length, not, ◌&&◌}
use Rattle.task_sheet.specs.Sheet.{Task}
use Rattle.task_sheet.specs.Indexes.{Indexes, listed_below, without_index}
use Rattle.task_sheet.specs.Orders.{AllStand, IsOrderOf, all_of}

-- the tasks of a set that aren't of C
abbrev pub others_of : List Task → Indexes → Indexes
others_of U C k = all_of U k && not (C k)

-- task i of C stands just below the others of C, of which each stands in its place, and above all other tasks, these by rank
pub record IsOrderBelow (U : List Task) (C : Indexes) (i : ℕ) (order : List ℕ) : Type 0 where
  pub above : List ℕ
  pub each_once : IsOrderOf (without_index C i) above
  pub each_stands : AllStand U above
  pub placed : order ≡ listed_below (length U) (others_of U C) ++ i ∷ above
