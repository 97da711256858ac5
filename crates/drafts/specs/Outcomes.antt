-- What the code's answers say of what changes come to.
use Rattle.std.specs.Prelude.{◌≡◌, ℕ, ◌+◌, List, Option, None, Some, Result, Ok, Err}
use Rattle.task_sheet.specs.Sheet.{Task}
use Rattle.task_sheet.specs.TaskSet.{IsTaskSet}
use Rattle.assignment.specs.Placings.{IsBestPlacing}
use Rattle.drafts.specs.declared.change.Refusal.{Refusal}
use Rattle.drafts.specs.declared.applying.Applied.{Applied}
use Rattle.drafts.specs.declared.applying.Applied.TheVariants.{Tasks, Refused}
use Rattle.drafts.specs.declared.judging.Judged.{Judged}
use Rattle.drafts.specs.declared.judging.Judged.TheVariants as judged
use Rattle.drafts.specs.Applied.{OnNode, set_of}
use Rattle.drafts.specs.Placed.{AreStuck}
use Rattle.drafts.specs.Machine.{MachineState, Ruling, Entry, admitted}
use Rattle.drafts.specs.Machine as ruling
use Rattle.drafts.specs.Edits.{Draft}

-- the changes are refused, or come to this set
abbrev pub IsApplied : Result OnNode Refusal → Applied → Type 0
IsApplied (Err refusal) (Refused told) = told ≡ refusal
IsApplied (Ok node) (Tasks set) = set.value ≡ set_of node
IsApplied (Err refusal) (Tasks set) = ⊥
IsApplied (Ok node) (Refused told) = ⊥

-- the best order of the set, or the members of its greatest obstruction
abbrev pub IsJudgedSet : List Task → Judged → Type 0
IsJudgedSet U (judged.Refused refusal) = ⊥
IsJudgedSet U (judged.Best order) = (order.set ≡ U) × IsBestPlacing U order.places
IsJudgedSet U (judged.Stuck stuck) = (stuck.set ≡ U) × AreStuck U stuck.members

-- the refusal, or what becomes of the set that the changes come to
abbrev pub IsJudged : Result OnNode Refusal → Judged → Type 0
IsJudged (Ok node) j = IsJudgedSet (set_of node) j
IsJudged (Err refusal) (judged.Refused told) = told ≡ refusal
IsJudged (Err refusal) (judged.Best order) = ⊥
IsJudged (Err refusal) (judged.Stuck stuck) = ⊥

-- the decision says what was judged, of a set that is valid
abbrev pub IsSaid : ℕ → Judged → Ruling → Type 0
IsSaid version (judged.Refused refusal) (ruling.Refused told) = told ≡ refusal
IsSaid version (judged.Best order) (ruling.Admitted told) = told ≡ version + 1
IsSaid version (judged.Stuck stuck) (ruling.Infeasible told) = (told ≡ stuck) × IsTaskSet stuck.set
IsSaid version j d = ⊥

-- where it is admitted, the state moves to what the changes come to
abbrev pub IsNextState : MachineState → Result OnNode Refusal → Judged → Option MachineState
    → Type 0
IsNextState desk outcome (judged.Best order) next = next ≡ Some (admitted desk outcome)
IsNextState desk outcome (judged.Refused refusal) next = next ≡ None
IsNextState desk outcome (judged.Stuck stuck) next = next ≡ None

-- the line of a draft's changes that were judged at a version
abbrev pub IsEntryOf : ℕ → Draft → Judged → Entry → Type 0
IsEntryOf version d j e = (e.team ≡ d.team) × (e.changes ≡ d.changes) × IsSaid version j e.decision

-- the next state, where there is one
abbrev pub after_next : MachineState → Option MachineState → MachineState
after_next desk None = desk
after_next desk (Some next) = next
