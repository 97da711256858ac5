-- The lines of an explanation that speak of one task.
use Rattle.std.specs.Prelude.{◌==◌, ℕ, ◌+◌, List, [], ◌∷◌, ◌++◌, length, if◌then◌else◌}
use Rattle.task_sheet.specs.Sheet.{Task}
use Rattle.task_sheet.specs.Indexes.{indexes_of, listed_below}
use Rattle.task_lines.specs.declared.owner.Owner.{Owner}
use Rattle.explain.specs.ExplanationLines.{conflict_line, level_account_lines, need_lines}
use Rattle.explain.specs.declared.accounts.Account.{Account}
use Rattle.explain.specs.declared.needs.Need.{Need}
use Rattle.explain.specs.declared.needs.Need.TheVariants.{Needs, MustBeAbove}
use Rattle.explain.specs.declared.explanation.Explanation.{Explanation}
use Rattle.explain.specs.declared.explanation.Explanation.TheVariants.{Responses, Conflict}

-- those of a level, which has a number, where it is the task's
abbrev pub level_lines_of : List Owner → List Task → (task number : ℕ) → Account → List ℕ
level_lines_of owners U task number a = if a.task == task then level_account_lines owners U number a else []

-- those of the levels that are the task's, of which the first has a number
abbrev pub response_lines_of : List Owner → List Task → (task number : ℕ) → List Account → List ℕ
response_lines_of owners U task number [] = []
response_lines_of owners U task number (a ∷ accounts) =
    level_lines_of owners U task number a ++ response_lines_of owners U task (number + 1) accounts

-- the task that may not stand below the others
abbrev pub need_task : Need → ℕ
need_task (Needs a) = a.task
need_task (MustBeAbove task other) = task

-- why it may not, where it is the task
abbrev pub need_lines_of : List Owner → List Task → ℕ → Need → List ℕ
need_lines_of owners U task n = if need_task n == task then need_lines owners U n else []

-- the same of each task of a conflict that is the task
abbrev pub needs_lines_of : List Owner → List Task → ℕ → List Need → List ℕ
needs_lines_of owners U task [] = []
needs_lines_of owners U task (n ∷ needs) = need_lines_of owners U task n ++ needs_lines_of owners U task needs

-- the lines of a task: its level, or the conflict and, where the task is of it, why it may not stand below the others
abbrev pub task_lines : List Owner → List Task → ℕ → Explanation → List ℕ
task_lines owners U task (Responses accounts) = response_lines_of owners U task 1 accounts.items
task_lines owners U task (Conflict left needs) =
    conflict_line U (listed_below (length U) (indexes_of left))
    ++ needs_lines_of owners U task needs.items
