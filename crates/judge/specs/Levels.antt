-- Rows of levels, and their lines.
use Rattle.std.specs.Prelude.{ℕ, ◌+◌, List, [], ◌∷◌, ◌++◌, slice_get, codes, Option}
use Rattle.std.specs.Fmt.{decimal}
use Rattle.task_sheet.specs.Sheet.{Task}
use Rattle.lines.specs.Naming.{name_at}
use Rattle.task_lines.specs.Teams.{team_words}
use Rattle.task_lines.specs.declared.owner.Owner.{Owner}
use Rattle.assignment.specs.Places.{PlaceData}
use Rattle.explain.specs.ExplanationLines.{level_account_lines}
use Rattle.explain.specs.declared.accounts.Account.{Account}
use Rattle.judge.specs.JudgementLines.{at_words, judged_words}
use Rattle.judge.specs.Missed.{missed_lines}
use Rattle.judge.specs.declared.judging.JudgedTask.{JudgedTask}
use Rattle.judge.specs.declared.judging.Judgement.{Judgement}
use Rattle.judge.specs.declared.judging.Judgement.TheVariants.{Meets, Misses, Below}
use Rattle.judge.specs.declared.levels.Told.{Told}
use Rattle.judge.specs.declared.levels.Told.TheVariants.{Placed, Judged, Response, Needs}
use Rattle.judge.specs.declared.levels.LevelRow.{LevelRow}

-- ---- rows
-- the levels of an order, of which the first has a number
abbrev pub placed_rows : ℕ → List PlaceData → List LevelRow
placed_rows number [] = []
placed_rows number (p ∷ places) =
    record { number = number; told = Placed p } ∷ placed_rows (number + 1) places

-- the same with the parts of their responses
abbrev pub account_rows : ℕ → List Account → List LevelRow
account_rows number [] = []
account_rows number (a ∷ accounts) =
    record { number = number; told = Response a } ∷ account_rows (number + 1) accounts

-- the levels of an order that was judged, the first above some places; the numbers of the threads stand by place
abbrev pub judged_rows : (numbers : List ℕ) → (place : ℕ) → List JudgedTask → List LevelRow
judged_rows numbers place [] = []
judged_rows numbers place (j ∷ judged) =
    record { number = place + 1; told = Judged j (slice_get numbers place) }
    ∷ judged_rows numbers (place + 1) judged

-- ---- lines
-- a level: its number, its task and the task's response
abbrev pub placed_line : List Task → ℕ → PlaceData → List ℕ
placed_line U number p =
    decimal number ++ codes " " ++ name_at U p.task ++ codes " " ++ decimal p.response ++ codes "\n"

-- the words that name the team of a level's task; none where another task stands behind `below`
abbrev pub level_team : List Owner → List Task → ℕ → Judgement → List ℕ
level_team owners U task (Meets response) = team_words owners U task
level_team owners U task (Misses needs) = team_words owners U task
level_team owners U task (Below other) = []

-- what becomes of a level's task, the number of its thread, where one is given, and its team
abbrev pub judged_line : List Owner → List Task → ℕ → JudgedTask → Option ℕ → List ℕ
judged_line owners U number j thread =
    decimal number ++ codes " " ++ judged_words U j ++ at_words thread
    ++ level_team owners U j.task j.judgement ++ codes "\n"

-- the lines of what is told of a level, which has a number
abbrev pub told_lines : List Owner → List Task → ℕ → Told → List ℕ
told_lines owners U number (Placed p) = placed_line U number p
told_lines owners U number (Judged j thread) = judged_line owners U number j thread
told_lines owners U number (Response a) = level_account_lines owners U number a
told_lines owners U number (Needs a) = missed_lines owners U number a

-- those of rows
abbrev pub rows_lines : List Owner → List Task → List LevelRow → List ℕ
rows_lines owners U [] = []
rows_lines owners U (r ∷ rows) = told_lines owners U r.number r.told ++ rows_lines owners U rows
