-- What taking a finding does to a level, and what it answers.
use Rattle.std.specs.Prelude.{◌≡◌, IsTrue, IsFalse, Result, Ok, Err}
use Rattle.std.specs.FinSet.{contains}
use Rattle.assignment.specs.Questions.{FindingData}
use Rattle.assignment.specs.Levels.{LevelState, IsAsked, with_finding}
use Rattle.assignment.specs.declared.level.TakeFault.{TakeFault}
use Rattle.assignment.specs.declared.level.TakeFault.TheVariants.{Stranger, Twice}

-- taken, or refused, and then the level is unchanged and the finding is handed back
abbrev pub IsTaken : LevelState → FindingData → LevelState → Result (Unit {0}) TakeFault → Type 0
IsTaken old finding new (Ok done) =
    IsAsked old finding.question × IsTrue (contains old.missing finding.question.task)
    × (new ≡ with_finding old finding.question.task)
IsTaken old finding new (Err (Stranger back)) = (¬ IsAsked old finding.question) × (back ≡ finding)
    × (new ≡ old)
IsTaken old finding new (Err (Twice back)) =
    IsAsked old finding.question × IsFalse (contains old.missing finding.question.task)
    × (back ≡ finding) × (new ≡ old)
