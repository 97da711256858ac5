-- The questions of a draft's test, and what a gate may do to them.
use Rattle.std.specs.Prelude.{◌≡◌, ℕ, ◌<◌, List, length, Result, Ok, Err}
use Rattle.task_sheet.specs.Sheet.{Task, task_at}
use Rattle.assignment.specs.Questions.{QuestionData}
use Rattle.assignment.specs.Placings.{IsPlacingOf}
use Rattle.assignment.specs.declared.placing.Placing.{Placing}
use Rattle.candidate_workers.specs.Asked.{IsOfPlacing}
use Rattle.candidate_workers.specs.WorkerFaults.{MayBeShut}
use Rattle.candidate_workers.specs.declared.assaying.AssayFault.{AssayFault}
use Rattle.candidate_workers.specs.declared.assaying.AssayFault.TheVariants as assay
use Rattle.drafts.specs.declared.change.Refusal.{Refusal}
use Rattle.drafts.specs.Applied.{OnNode, set_of}
use Rattle.book_lock.specs.declared.commit.CommitCause.{CommitCause}
use Rattle.book_lock.specs.declared.commit.CommitCause.TheVariants.{OtherTeam, BadWorkers, ThreadRefused, GateShut, OutOfMemory}

-- no question of the set's placing is one of these; a set has one placing
abbrev pub NoneShutOf : (QuestionData → Type 0) → List Task → Type 0
NoneShutOf shut U =
    (placing : Placing) → IsPlacingOf U placing → (q : QuestionData) → IsOfPlacing U placing q
    → shut q → ⊥

-- where the changes apply, this holds of the set that they come to
abbrev pub NoneShutApplied : (QuestionData → Type 0) → Result OnNode Refusal → Type 0
NoneShutApplied shut (Err refusal) = Unit {0}
NoneShutApplied shut (Ok node) = NoneShutOf shut (set_of node)

-- a task of that name is on a question on this set that may be shut out
pub record MayShutName (may : QuestionData → Type 0) (U : List Task) (name : List ℕ) : Type 0 where
  pub task : ℕ
  pub shut : MayBeShut may U task
  pub named : (task_at U task).name ≡ name

-- why a set wasn't tested
abbrev pub IsUntestedSet : (QuestionData → Type 0) → List Task → CommitCause → Type 0
IsUntestedSet may U OtherTeam = ⊥
IsUntestedSet may U BadWorkers = ⊥
IsUntestedSet may U ThreadRefused = Unit {0}
IsUntestedSet may U (GateShut name) = MayShutName may U name
IsUntestedSet may U OutOfMemory = Unit {0}

-- why changes that come to this weren't tested; where they are refused, no worker is started and no gate asked
abbrev pub IsUntested : (QuestionData → Type 0) → Result OnNode Refusal → CommitCause → Type 0
IsUntested may (Ok node) cause = IsUntestedSet may (set_of node) cause
IsUntested may (Err refusal) cause = cause ≡ OutOfMemory

-- the fault, if it names a task, names one of the set
abbrev pub IsOnTask : List Task → AssayFault → Type 0
IsOnTask U assay.BadWorkers = Unit {0}
IsOnTask U assay.ThreadRefused = Unit {0}
IsOnTask U (assay.GateShut task) = task < length U
IsOnTask U assay.OutOfMemory = Unit {0}

-- the fault of the test, with the task's name
abbrev pub IsCauseOf : List Task → AssayFault → CommitCause → Type 0
IsCauseOf U assay.BadWorkers cause = cause ≡ BadWorkers
IsCauseOf U assay.ThreadRefused cause = cause ≡ ThreadRefused
IsCauseOf U (assay.GateShut task) cause = cause ≡ GateShut (task_at U task).name
IsCauseOf U assay.OutOfMemory cause = cause ≡ OutOfMemory
