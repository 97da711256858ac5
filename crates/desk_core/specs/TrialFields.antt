-- How a `Trial` keeps its climb.
use Rattle.std.specs.Prelude.{◌≡◌, ◌≤◌, [], length, vec_capacity}
use Rattle.ceilings.specs.IsTableOf.{IsTableOf}
use Rattle.desk_core.specs.Progress.{IsHeld}
use Rattle.desk_core.specs.declared.trial.Trial.TheInside.{Inside}

-- the table is that of the set, the climb and the level that is kept are as far as the findings are, and there is room for
-- the places of all tasks
pub record IsTrialKept (a : Inside) : Type 0 where
  pub tabled : IsTableOf a.set.value a.table
  pub held : IsHeld a.set.value a.climb a.level a.found.items
  pub empty : a.room.items ≡ []
  pub room : length a.set.value ≤ vec_capacity a.room
