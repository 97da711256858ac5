-- What a finding makes of a climb and its present level.
use Rattle.std.specs.Prelude.{◌≡◌, ◌⊎◌, length, Option, None, Some, IsTrue, IsFalse}
use Rattle.std.specs.FinSet.{contains}
use Rattle.assignment.specs.Questions.{QuestionData}
use Rattle.assignment.specs.Levels.{LevelState, IsAsked, IsDecided, with_finding}
use Rattle.assignment.specs.Climbs.{ClimbState, IsPlaced, IsEnded, IsUnfinished}
use Rattle.desk_core.specs.declared.told.Told.{Told}
use Rattle.desk_core.specs.declared.told.Told.TheVariants.{Stranger, Twice, Taken, LevelDone, Tested}

-- a decided level is closed
abbrev pub IsClosing : ClimbState → ClimbState → Told → Type 0
IsClosing old new (LevelDone level task response) =
    (placed : IsPlaced old new) × IsUnfinished new
    × (level ≡ length new.levels) × (task ≡ placed.level.task) × (response ≡ placed.level.response)
IsClosing old new Tested = (¬ IsUnfinished new) × (IsPlaced old new ⊎ IsEnded old new)
IsClosing old new Stranger = ⊥
IsClosing old new Twice = ⊥
IsClosing old new Taken = ⊥

-- the question is on a candidate without a finding
abbrev pub IsNew : LevelState → QuestionData → Type 0
IsNew l q = IsAsked l q × IsTrue (contains l.missing q.task)

-- the finding decides the level, which is closed
abbrev pub IsDeciding :
    ClimbState → LevelState → QuestionData → ClimbState → Option LevelState → Told → Type 0
IsDeciding c l q c' kept told =
    IsNew l q × IsDecided (with_finding l q.task) × (kept ≡ None) × IsClosing c c' told

-- what is told of a finding at a level, and what the climb and the level are then
abbrev pub IsTakenAt :
    ClimbState → LevelState → QuestionData → ClimbState → Option LevelState → Told → Type 0
IsTakenAt c l q c' kept Stranger = (¬ IsAsked l q) × (kept ≡ Some l) × (c' ≡ c)
IsTakenAt c l q c' kept Twice =
    (IsAsked l q × IsFalse (contains l.missing q.task)) × (kept ≡ Some l) × (c' ≡ c)
IsTakenAt c l q c' kept Taken =
    IsNew l q × (¬ IsDecided (with_finding l q.task))
    × (kept ≡ Some (with_finding l q.task)) × (c' ≡ c)
IsTakenAt c l q c' kept (LevelDone level task response) =
    IsDeciding c l q c' kept (LevelDone level task response)
IsTakenAt c l q c' kept Tested = IsDeciding c l q c' kept Tested
