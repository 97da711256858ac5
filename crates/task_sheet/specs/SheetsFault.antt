-- Why sheets are no set, and why a set can't be changed: the first reason, in the order of the tests.
use Rattle.std.specs.Prelude.{ℕ, nat_lt, nat_le, List, [], length, Option, Some, None, if◌then◌else◌}
use Rattle.task_sheet.specs.Sheet.{Task}
use Rattle.task_sheet.specs.TaskSet.{first_repeat, has_name}
use Rattle.task_sheet.specs.declared.set.TheConstants.{TASK_LIMIT}
use Rattle.task_sheet.specs.declared.set.SetCause.{SetCause}
use Rattle.task_sheet.specs.declared.set.SetCause.TheVariants as cause
use Rattle.task_sheet.specs.declared.set.WithCause.{WithCause}
use Rattle.task_sheet.specs.declared.set.WithCause.TheVariants as with

-- the fault, by where a name first repeats
abbrev pub set_cause : Option ℕ → List Task → Option SetCause
set_cause (Some task) xs = Some (cause.SameName task)
set_cause None xs = if nat_lt TASK_LIMIT (length xs) then Some cause.TooManyTasks else None

-- the first reason why sheets are no set, in the order in which they are given
abbrev pub sheets_fault : List Task → Option SetCause
sheets_fault xs = set_cause (first_repeat [] 1 xs) xs

-- why a sheet can't be added to a set
abbrev pub with_fault : List Task → Task → Option WithCause
with_fault xs x =
    if has_name xs x.name then Some with.SameName
    else if nat_le TASK_LIMIT (length xs) then Some with.TooManyTasks
    else None
