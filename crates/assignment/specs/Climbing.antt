-- What the calls of a climb do and answer.
use Rattle.std.specs.Prelude.{◌≡◌, ◌⊎◌, Result, Ok, Err}
use Rattle.task_sheet.specs.Verdicts.{IsVerdictOf}
use Rattle.assignment.specs.Levels.{LevelState, IsDecided}
use Rattle.assignment.specs.Climbs.{ClimbState, IsNext, IsPlaced, IsEnded, IsUnfinished}
use Rattle.assignment.specs.Verdict.{verdict_set, verdict_of}
use Rattle.assignment.specs.declared.verdict.Verdict.{Verdict}
use Rattle.assignment.specs.declared.climb.ClimbFault.{ClimbFault}
use Rattle.assignment.specs.declared.climb.ClimbFault.TheVariants.{Stranger, NotAll}
use Rattle.assignment.specs.declared.climb.Unfinished.{Unfinished}

-- a level is closed, or refused, and then the climb is unchanged and the level is handed back
abbrev pub ClosesLevel : ClimbState → LevelState → ClimbState → Result (Unit {0}) ClimbFault
    → Type 0
ClosesLevel old level new (Ok done) = IsNext old level × IsDecided level
    × (IsPlaced old new ⊎ IsEnded old new)
ClosesLevel old level new (Err (Stranger back)) = (¬ IsNext old level) × (back ≡ level)
    × (new ≡ old)
ClosesLevel old level new (Err (NotAll back)) = IsNext old level × (¬ IsDecided level)
    × (back ≡ level) × (new ≡ old)

-- the verdict of the set, or the climb is handed back
abbrev pub Finishes : ClimbState → Result Verdict Unfinished → Type 0
Finishes climb (Ok verdict) =
    (¬ IsUnfinished climb) × (verdict_set verdict ≡ climb.set)
    × IsVerdictOf climb.set (verdict_of verdict)
Finishes climb (Err fault) = IsUnfinished climb × (fault.climb ≡ climb)
