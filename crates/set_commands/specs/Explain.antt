-- What `desk explain` answers and prints.
use Rattle.std.specs.Prelude.{◌≡◌, ℕ, nat_lt, Bool, true, false, not, ◌&&◌, List, [], ◌++◌, length, Option, Some, None, Result}
use Rattle.task_sheet.specs.Indexes.{indexes_of, listed_below}
use Rattle.task_sheet.specs.Sheet.{Task}
use Rattle.assignment.specs.declared.placing.Placing.{Placing}
use Rattle.assignment.specs.declared.placing.Placing.TheVariants.{Best, Stuck}
use Rattle.explain.specs.Explanations.{Explains}
use Rattle.explain.specs.ExplanationLines.{conflict_line, load_line, needs_lines}
use Rattle.explain.specs.TaskLines.{task_lines}
use Rattle.explain.specs.declared.explanation.Explanation.{Explanation}
use Rattle.explain.specs.declared.explanation.Explanation.TheVariants.{Responses, Conflict}
use Rattle.judge.specs.Explained.{AreLevels}
use Rattle.judge.specs.Levels.{account_rows, rows_lines}
use Rattle.judge.specs.Slack.{sorted_if}
use Rattle.judge.specs.declared.levels.LevelRow.{LevelRow}
use Rattle.judge.specs.Judgements.{AllJudged, order_judged}
use Rattle.judge.specs.declared.explained.Parted.{Parted}
use Rattle.judge.specs.declared.explained.Parted.TheVariants.{Missed, Bare}
use Rattle.judge.specs.declared.judging.JudgedTask.{JudgedTask}
use Rattle.task_lines.specs.declared.owner.Owner.{Owner}
use Rattle.worst_lines.specs.Deciding.{IsDeciding}
use Rattle.chain_lines.specs.declared.text.Telling.TheVariants.{Parts}
use Rattle.set_commands.specs.Chained.{chained_of, status_of}
use Rattle.set_commands.specs.OnSet.{OfSet}
use Rattle.set_commands.specs.declared.chained.Placed.{Placed}
use Rattle.answering.specs.Asked.{AnswersAsked}
use Rattle.answering.specs.OrderParts.{placing_first}
use Rattle.answering.specs.Printed.{AnswersText}
use Rattle.answering.specs.Statuses.{placing_status}
use Rattle.answering.specs.declared.answer.Answer.{Answer}
use Rattle.answering.specs.declared.refusal.CommandRefusal.{CommandRefusal}

-- a conflict of more than three tasks is told in short, unless all is asked for
abbrev pub is_short : (all : Bool) → Explanation → Bool
is_short all (Responses accounts) = false
is_short all (Conflict left needs) = not all && nat_lt 3 (length needs.items)

-- of which levels of an order that decides the parts are printed: of none where it is told in short; else of those whose task
-- misses its deadline
abbrev pub parted_of : Bool → Parted
parted_of true = Bare
parted_of false = Missed

-- where no order passes, the rows are those of each task in an order that decides, or of the one that is asked about; else
-- there are none
abbrev pub AreDecided : Parted → List Task → Option ℕ → Placing → List LevelRow → Type 0
AreDecided parted U asked (Best places) rows = rows ≡ []
AreDecided parted U asked (Stuck left) rows =
    (judged : List JudgedTask) × IsDeciding U (order_judged judged) × AllJudged U judged
    × AreLevels parted U asked 1 judged rows

-- the line of a conflict
abbrev pub conflict_said : List Task → Explanation → List ℕ
conflict_said U (Responses accounts) = []
conflict_said U (Conflict left needs) =
    conflict_line U (listed_below (length U) (indexes_of left))

-- what explains a placing at length: the levels of its order; or a conflict with each of its tasks, and then those of an order
-- that decides
abbrev pub long_lines :
    (sorted : Bool) → List Owner → List Task → Explanation → (decided : List LevelRow) → List ℕ
long_lines sorted owners U (Responses accounts) decided =
    rows_lines owners U (sorted_if sorted U (account_rows 1 accounts.items)) ++ load_line U
long_lines sorted owners U (Conflict left needs) decided =
    conflict_line U (listed_below (length U) (indexes_of left)) ++ needs_lines owners U needs.items
    ++ load_line U ++ rows_lines owners U (sorted_if sorted U decided)

-- the same, levels by slack where it is asked for; in short those of an order that decides first, and then the conflict by its
-- tasks
abbrev pub whole_lines : (short sorted : Bool) → List Owner → List Task → Explanation
    → (decided : List LevelRow) → List ℕ
whole_lines true sorted owners U e decided =
    rows_lines owners U (sorted_if sorted U decided) ++ conflict_said U e ++ load_line U
whole_lines false sorted owners U e decided = long_lines sorted owners U e decided

-- that of an explanation, of which all is asked for or not
abbrev pub reasons_said :
    List Owner → List Task → (all sorted : Bool) → Explanation → (decided : List LevelRow) → List ℕ
reasons_said owners U all sorted e decided = whole_lines (is_short all e) sorted owners U e decided

-- a text is what is printed of a set that was placed: its first line, then that, the levels by slack where it is asked for, and
-- each chain with the parts of its bound
abbrev pub IsExplained : (all sorted : Bool) → Placed → List ℕ → Type 0
IsExplained all sorted placed text =
    (explanation : Explanation) × (decided : List LevelRow)
    × Explains placed.tasks placed.placing explanation
    × AreDecided (parted_of (is_short all explanation)) placed.tasks None placed.placing decided
    × (text ≡ (placing_first placed.tasks placed.placing
    ++ reasons_said placed.owners.items placed.tasks all sorted explanation decided) ++ chained_of Parts placed)

-- it is what is printed of a task: what explains its response, or that it has none, and what becomes of it in an order that
-- decides
abbrev pub IsTaskExplained : Placed → (task : ℕ) → List ℕ → Type 0
IsTaskExplained placed task text =
    (explanation : Explanation) × (decided : List LevelRow)
    × Explains placed.tasks placed.placing explanation
    × AreDecided Missed placed.tasks (Some task) placed.placing decided
    × (text ≡ placing_first placed.tasks placed.placing
    ++ (task_lines placed.owners.items placed.tasks task explanation
    ++ rows_lines placed.owners.items placed.tasks decided))

-- the answer on all, or on the task that is asked about
abbrev pub ExplainsAsked : (all sorted : Bool) → Placed → (asked : Option ℕ) → Result Answer CommandRefusal → Type 0
ExplainsAsked all sorted placed None = AnswersText (IsExplained all sorted placed) (status_of placed)
ExplainsAsked all sorted placed (Some task) =
    AnswersText (IsTaskExplained placed task) (placing_status placed.placing)

-- the answer, of the task that a word names
abbrev pub ExplainsSet : (all sorted : Bool) → Option (List ℕ) → OfSet
ExplainsSet all sorted word placed = AnswersAsked (ExplainsAsked all sorted placed) placed.tasks word

-- WITH ALL nothing is told in short: the lines are those of the explanation with what each task of a conflict needs, and
-- those of an order that decides, with the parts of what misses
abbrev pub AllIsWhole : Type 0
AllIsWhole =
    (sorted : Bool) (owners : List Owner) (U : List Task) (e : Explanation) (decided : List LevelRow)
    → (whole_lines (is_short true e) sorted owners U e decided ≡ long_lines sorted owners U e decided)
    × (parted_of (is_short true e) ≡ Missed)
