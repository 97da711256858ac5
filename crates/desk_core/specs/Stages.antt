-- How far the test of a draft has come.
use Rattle.std.specs.Prelude.{◌≡◌, Bool, true, false, List, [], Option, None, Some, Result, Ok, Err}
use Rattle.drafts.specs.Outcomes.{IsJudged}
use Rattle.drafts.specs.declared.change.Refusal.{Refusal}
use Rattle.drafts.specs.Applied.{OnNode, set_of}
use Rattle.desk_core.specs.Findings.{Asked}
use Rattle.desk_core.specs.declared.stage.Stage.{Stage}
use Rattle.desk_core.specs.declared.stage.Stage.TheVariants.{Fresh, Trying, Tested}
use Rattle.desk_core.specs.Trials.{TrialData}
use Rattle.desk_core.specs.World.{IsTestedOn}

-- the findings that were taken
abbrev pub found_of : Stage → List Asked
found_of Fresh = []
found_of (Trying trial) = trial.value.found
found_of (Tested judged found) = found.items

-- it is a trial of what the changes come to
abbrev pub IsTrialOn : Result OnNode Refusal → TrialData → Type 0
IsTrialOn (Err refusal) trial = ⊥
IsTrialOn (Ok node) trial = trial.set ≡ set_of node

-- what is kept of the test is right for what the changes come to
abbrev pub IsStage : Result OnNode Refusal → Stage → Type 0
IsStage outcome Fresh = Unit {0}
IsStage outcome (Trying trial) = IsTrialOn outcome trial.value
IsStage outcome (Tested judged found) = IsTestedOn outcome found.items × IsJudged outcome judged

-- the test is begun
abbrev pub is_begun : Stage → Bool
is_begun Fresh = false
is_begun (Trying trial) = true
is_begun (Tested judged found) = true

-- what was judged is kept
abbrev pub IsComplete : Stage → Type 0
IsComplete Fresh = ⊥
IsComplete (Trying trial) = ⊥
IsComplete (Tested judged found) = Unit {0}

-- the changes apply, and then the test is begun
abbrev pub IsBegun : Result OnNode Refusal → Stage → Bool → Type 0
IsBegun (Err refusal) stage applies = applies ≡ false
IsBegun (Ok node) stage applies = (applies ≡ true) × (is_begun stage ≡ true)

-- a trial of what the changes come to, where they apply
abbrev pub IsTrialOf : Result OnNode Refusal → Option TrialData → Type 0
IsTrialOf (Err refusal) trial = trial ≡ None
IsTrialOf (Ok node) (Some trial) = (trial.set ≡ set_of node) × (trial.found ≡ [])
IsTrialOf (Ok node) None = ⊥
