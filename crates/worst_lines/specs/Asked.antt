-- Which task's worst case is shown.
use Rattle.std.specs.Prelude.{ℕ, ◌-◌, ◌==◌, nat_lt, List, [], ◌∷◌, find, Option, Some, None, if◌then◌else◌}
use Rattle.task_sheet.specs.Sheet.{Task, task_at}
use Rattle.judge.specs.Judgements.{does_meet}
use Rattle.judge.specs.declared.judging.JudgedTask.{JudgedTask}
use Rattle.judge.specs.declared.judging.Judgement.{Judgement}
use Rattle.judge.specs.declared.judging.Judgement.TheVariants.{Meets, Misses, Below}

-- how much later than at its response a task has to be done; 0 of one that doesn't meet its deadline
abbrev pub slack_by : ℕ → Judgement → ℕ
slack_by deadline (Meets response) = deadline - response
slack_by deadline (Misses needs) = 0
slack_by deadline (Below other) = 0

-- the same of a task that was judged
abbrev pub slack_of : List Task → JudgedTask → ℕ
slack_of U j = slack_by (task_at U j.task).deadline j.judgement

-- of two the one of less slack; of equals the later one
abbrev pub tighter : List Task → Option JudgedTask → JudgedTask → JudgedTask
tighter U None j = j
tighter U (Some k) j = if nat_lt (slack_of U k) (slack_of U j) then k else j

-- of these and one that was found the one of least slack
abbrev pub tightest_of : List Task → Option JudgedTask → List JudgedTask → Option JudgedTask
tightest_of U found [] = found
tightest_of U found (j ∷ judged) = tightest_of U (Some (tighter U found j)) judged

-- of an order the one of least slack; of equals the highest
abbrev pub tightest : List Task → List JudgedTask → Option JudgedTask
tightest U judged = tightest_of U None judged

-- the last of these that doesn't meet its deadline, or else the one that was found
abbrev pub failing_of : Option JudgedTask → List JudgedTask → Option JudgedTask
failing_of found [] = found
failing_of found (j ∷ judged) =
    failing_of (if does_meet j.judgement then found else Some j) judged

-- of an order the highest one that doesn't meet its deadline
abbrev pub highest_failing : List JudgedTask → Option JudgedTask
highest_failing judged = failing_of None judged

-- the one of an index
abbrev pub judged_at : ℕ → List JudgedTask → Option JudgedTask
judged_at task judged = find (λ j. j.task == task) judged
