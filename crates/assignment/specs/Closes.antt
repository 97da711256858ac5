-- What a level comes to.
use Rattle.std.specs.Prelude.{List}
use Rattle.task_sheet.specs.Sheet.{Task}
use Rattle.task_sheet.specs.Indexes.{Indexes}
use Rattle.task_sheet.specs.Levels.{IsChosen}
use Rattle.task_sheet.specs.Verdicts.{IsLevel}
use Rattle.assignment.specs.Levels.{IsObstructed}
use Rattle.assignment.specs.declared.level.Closed.{Closed}
use Rattle.assignment.specs.declared.level.Closed.TheVariants.{Chosen, Obstruction}

-- the task of least rank that may stand below the others of L, with its response and the failures
-- of those of smaller rank; or all failures, where none may
abbrev pub IsClosed : List Task → Indexes → Closed → Type 0
IsClosed U L (Chosen level) = IsChosen U L level.task × IsLevel U L level
IsClosed U L (Obstruction fails) = IsObstructed U L fails.items
