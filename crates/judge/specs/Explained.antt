-- What explains an order that is given: a row for each level.
use Rattle.std.specs.Prelude.{◌≡◌, ℕ, ◌+◌, ◌==◌, Bool, true, false, List, [], ◌∷◌, ◌++◌, Option, Some, None}
use Rattle.task_sheet.specs.Sheet.{Task}
use Rattle.task_lines.specs.declared.owner.Owner.{Owner}
use Rattle.explain.specs.Accounts.{IsResponseAccount}
use Rattle.explain.specs.ExplanationLines.{load_line}
use Rattle.explain.specs.declared.accounts.Account.{Account}
use Rattle.judge.specs.Judgements.{order_judged}
use Rattle.judge.specs.Levels.{rows_lines}
use Rattle.judge.specs.Missed.{IsMissedBelow}
use Rattle.judge.specs.declared.explained.Parted.{Parted}
use Rattle.judge.specs.declared.explained.Parted.TheVariants.{Each, Bare}
use Rattle.judge.specs.declared.levels.Told.{Told}
use Rattle.judge.specs.declared.levels.Told.TheVariants.{Judged, Response, Needs}
use Rattle.judge.specs.declared.levels.LevelRow.{LevelRow}
use Rattle.judge.specs.declared.judging.JudgedTask.{JudgedTask}
use Rattle.judge.specs.declared.judging.Judgement.{Judgement}
use Rattle.judge.specs.declared.judging.Judgement.TheVariants.{Meets, Misses, Below}

-- ---- a level
-- this is told of a task below these that meets its deadline: its response with the parts, those above from the highest level
-- down; or its response alone
abbrev pub IsMet : Parted → List Task → (above : List ℕ) → (task response : ℕ) → Told → Type 0
IsMet Each U above task response told =
    (a : Account) × IsResponseAccount U above (record { task = task; response = response }) a
    × (told ≡ Response a)
IsMet _ U above task response told =
    told ≡ Judged (record { task = task; judgement = Meets response }) None

-- this is told of a task below these that misses it: what it needs at least, with the parts; or the need alone
abbrev pub IsMissing : Parted → List Task → (above : List ℕ) → (task needs : ℕ) → Told → Type 0
IsMissing Bare U above task needs told =
    told ≡ Judged (record { task = task; judgement = Misses needs }) None
IsMissing _ U above task needs told =
    (a : Account) × IsMissedBelow U above task a × (told ≡ Needs a)

-- this is told of a task below these: where it meets its deadline or misses it, that; or that it stands below one that it
-- must outrank
abbrev pub IsTold : Parted → List Task → (above : List ℕ) → (task : ℕ) → Judgement → Told → Type 0
IsTold parted U above task (Meets response) told = IsMet parted U above task response told
IsTold parted U above task (Misses needs) told = IsMissing parted U above task needs told
IsTold parted U above task (Below other) told =
    told ≡ Judged (record { task = task; judgement = Below other }) None

-- ---- those that are asked about
-- it is asked about this task: the one that is named, or any
abbrev pub is_asked : Option ℕ → ℕ → Bool
is_asked None task = true
is_asked (Some asked) task = asked == task

-- the rows are that of a level, which has a number, where it is asked about its task
abbrev pub AreAsked :
    Bool → Parted → List Task → (above : List ℕ) → ℕ → JudgedTask → List LevelRow → Type 0
AreAsked true parted U above number j rows =
    (told : Told) × IsTold parted U above j.task j.judgement told
    × (rows ≡ record { number = number; told = told } ∷ [])
AreAsked false parted U above number j rows = rows ≡ []

-- the rows are those of each level, of which the first has a number, with those after it above it
abbrev pub AreLevels :
    Parted → List Task → Option ℕ → (number : ℕ) → List JudgedTask → List LevelRow → Type 0
AreLevels parted U asked number [] rows = rows ≡ []
AreLevels parted U asked number (j ∷ judged) rows =
    (front : List LevelRow) × (rest : List LevelRow)
    × AreAsked (is_asked asked j.task) parted U (order_judged judged) number j front
    × AreLevels parted U asked (number + 1) judged rest
    × (rows ≡ front ++ rest)

-- ---- lines
-- the load of the set, where no task is named
abbrev pub load_asked : List Task → Option ℕ → List ℕ
load_asked U None = load_line U
load_asked U (Some asked) = []

-- the lines that explain an order: those of each level, the lowest first, and then the load
abbrev pub explained_lines : List Owner → List Task → Option ℕ → List LevelRow → List ℕ
explained_lines owners U asked rows = rows_lines owners U rows ++ load_asked U asked
