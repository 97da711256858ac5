-- How a `Level` keeps what it gathered, and the room for what it comes to.
use Rattle.std.specs.Prelude.{◌≡◌, ◌<◌, ◌≤◌, [], length, vec_capacity}
use Rattle.std.specs.FinSet.{len}
use Rattle.task_sheet.specs.TaskSet.{IsTaskSet}
use Rattle.task_sheet.specs.Indexes.{indexes_of, IsPart}
use Rattle.task_sheet.specs.Orders.{all_of}
use Rattle.assignment.specs.Levels.{AreRight, AreMissing}
use Rattle.assignment.specs.declared.level.Level.TheInside.{Inside}

-- each answer so far is right, and there is room for the failures
pub record IsLevelKept (a : Inside) : Type 0 where
  pub valid : IsTaskSet a.set.value
  pub part : IsPart (indexes_of a.left) (all_of a.set.value)
  pub some : 0 < len a.left
  pub right : AreRight a.set.value (indexes_of a.left) a.answers.items
  pub missing : AreMissing a.left a.missing a.answers.items
  pub empty : a.fails.items ≡ []
  pub room : length a.set.value ≤ vec_capacity a.fails
