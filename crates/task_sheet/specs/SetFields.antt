-- How a `TaskSet` keeps its sheets.
use Rattle.std.specs.Prelude.{List}
use Rattle.task_sheet.specs.Sheet.{Task}
use Rattle.task_sheet.specs.TaskSet.{IsTaskSet}
use Rattle.task_sheet.specs.declared.set.TaskSet.TheInside.{Inside}

-- what callers see of a set
abbrev pub sheets_of : Inside → List Task
sheets_of a = a.sheets.items

-- it is a task set
abbrev pub IsSetKept : Inside → Type 0
IsSetKept a = IsTaskSet (sheets_of a)
