-- The lines that say what becomes of the tasks of an order.
use Rattle.std.specs.Prelude.{ℕ, ◌==◌, ◌&&◌, not, List, [], ◌++◌, length, codes, Option, Some, None, if◌then◌else◌}
use Rattle.std.specs.List.{list_any}
use Rattle.std.specs.Fmt.{decimal}
use Rattle.task_sheet.specs.Sheet.{Task, task_at}
use Rattle.task_sheet.specs.Indexes.{Indexes, listed_below}
use Rattle.lines.specs.Naming.{name_at, named}
use Rattle.judge.specs.Judgements.{all_meet, does_meet}
use Rattle.judge.specs.declared.judging.JudgedTask.{JudgedTask}
use Rattle.judge.specs.declared.judging.Judgement.{Judgement}
use Rattle.judge.specs.declared.judging.Judgement.TheVariants.{Meets, Misses, Below}

-- ---- the first line
-- the tasks that don't meet their deadlines
abbrev pub missed_of : List JudgedTask → Indexes
missed_of judged k = list_any (λ j. (j.task == k) && not (does_meet j.judgement)) judged

-- the tasks that don't meet their deadlines, by rank
abbrev pub missed_line : List Task → Indexes → List ℕ
missed_line U missed = codes "misses" ++ named U (listed_below (length U) missed) ++ codes "\n"

-- how many tasks there are, where all meet their deadlines, and else those that don't
abbrev pub meets_line : List Task → List JudgedTask → List ℕ
meets_line U judged =
    if all_meet judged then codes "meets " ++ decimal (length judged) ++ codes "\n"
    else missed_line U (missed_of judged)

-- ---- a line for each task
-- what becomes of a task with this deadline
abbrev pub judgement_words : List Task → ℕ → Judgement → List ℕ
judgement_words U deadline (Meets response) = decimal response ++ codes " of " ++ decimal deadline
judgement_words U deadline (Misses needs) =
    codes "misses " ++ decimal deadline ++ codes " needs " ++ decimal needs
judgement_words U deadline (Below other) = codes "below " ++ name_at U other

-- the number that a thread has, where one is given
abbrev pub at_words : Option ℕ → List ℕ
at_words (Some number) = codes " at " ++ decimal number
at_words None = []

-- the line of a level after its number: the task, and what becomes of it
abbrev pub judged_words : List Task → JudgedTask → List ℕ
judged_words U j =
    name_at U j.task ++ codes " " ++ judgement_words U (task_at U j.task).deadline j.judgement
