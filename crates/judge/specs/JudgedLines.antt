-- The lines of an order that was judged.
use Rattle.std.specs.Prelude.{ℕ, Bool, List, [], ◌++◌}
use Rattle.task_sheet.specs.Sheet.{Task}
use Rattle.judge.specs.JudgementLines.{meets_line}
use Rattle.judge.specs.Levels.{judged_rows, rows_lines}
use Rattle.judge.specs.Slack.{sorted_if}
use Rattle.judge.specs.declared.judging.JudgedTask.{JudgedTask}

-- whether all tasks meet their deadlines, and then each, the lowest first, or by slack where it is asked for, with the numbers of
-- their threads; none, where none are given
abbrev pub judged_lines : (sorted : Bool) → List Task → List JudgedTask → (numbers : List ℕ) → List ℕ
judged_lines sorted U judged numbers =
    meets_line U judged ++ rows_lines [] U (sorted_if sorted U (judged_rows numbers 0 judged))
