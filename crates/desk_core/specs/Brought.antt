-- What is answered to a finding that is brought to a trial.
use Rattle.std.specs.Prelude.{◌<◌, length}
use Rattle.desk_core.specs.declared.told.Told.{Told}
use Rattle.desk_core.specs.declared.told.Told.TheVariants.{Stranger, Twice, Taken, LevelDone}
use Rattle.desk_core.specs.declared.told.Told.TheVariants.{Tested}
use Rattle.desk_core.specs.Trials.{TrialData}
use Rattle.desk_core.specs.Findings.{IsTested}

-- what is told speaks of a task of the set, or of a verdict that is complete
abbrev pub IsTelling : TrialData → Told → Type 0
IsTelling trial Stranger = Unit {0}
IsTelling trial Twice = Unit {0}
IsTelling trial Taken = Unit {0}
IsTelling trial (LevelDone level task response) = task < length trial.set
IsTelling trial Tested = IsTested trial.set trial.found
