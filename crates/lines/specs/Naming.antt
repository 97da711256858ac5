-- The names of a set's tasks in a line.
use Rattle.std.specs.Prelude.{ℕ, List, [], ◌∷◌, ◌++◌, codes}
use Rattle.task_sheet.specs.Sheet.{Task, task_at}

-- the name of the task at an index
abbrev pub name_at : List Task → ℕ → List ℕ
name_at U task = (task_at U task).name

-- the names of tasks, each after one space
abbrev pub named : List Task → List ℕ → List ℕ
named U [] = []
named U (task ∷ tasks) = codes " " ++ name_at U task ++ named U tasks
