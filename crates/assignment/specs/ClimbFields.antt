-- How a `Climb` keeps the levels that are closed, and the room for those to come.
use Rattle.std.specs.Prelude.{◌+◌, ◌≤◌, MatchOption, vec_len, vec_capacity}
use Rattle.std.specs.FinSet.{len}
use Rattle.task_sheet.specs.TaskSet.{IsTaskSet}
use Rattle.task_sheet.specs.Indexes.{indexes_of}
use Rattle.assignment.specs.Levels.{IsObstructed}
use Rattle.assignment.specs.Climbs.{IsClimbing}
use Rattle.assignment.specs.declared.climb.Climb.TheInside.{Inside}

-- the levels so far are right, and there is room for those to come
pub record IsClimbKept (a : Inside) : Type 0 where
  pub valid : IsTaskSet a.set.value
  pub climbing : IsClimbing a.set.value a.left a.levels.items
  pub room : vec_len a.levels + len a.left ≤ vec_capacity a.levels
  pub obstructed : MatchOption a.members (Unit {0})
      (λ members. IsObstructed a.set.value (indexes_of a.left) members.items)
