-- Where a draft stands, and the question on one of its candidates.
use Rattle.std.specs.Prelude.{◌≡◌, ℕ, List, Option, None, Some, Result, Ok, Err}
use Rattle.task_sheet.specs.Sheet.{Task}
use Rattle.assignment.specs.Questions.{QuestionData}
use Rattle.drafts.specs.declared.change.Refusal.{Refusal}
use Rattle.desk_core.specs.declared.events.Standing.{Standing}
use Rattle.desk_core.specs.declared.events.Standing.TheVariants.{NoSuchDraft, Untestable, Asking}
use Rattle.desk_core.specs.declared.events.Standing.TheVariants.{Tested}
use Rattle.drafts.specs.Applied.{OnNode, set_of}
use Rattle.desk_core.specs.Asking.{IsNextAsked, IsQuestionNamed}
use Rattle.desk_core.specs.Findings.{Asked, IsTested}
use Rattle.desk_core.specs.World.{Live, IsShown}
use Rattle.drafts.specs.Edits.{on_base}

-- a question is asked, or the verdict is complete and shows these names
abbrev pub IsTrying : List Task → List Asked → Standing → Type 0
IsTrying U found (Asking q) = (k : ℕ) × IsNextAsked U found q k
IsTrying U found (Tested infeasible) = IsTested U found × IsShown U infeasible.items
IsTrying U found NoSuchDraft = ⊥
IsTrying U found Untestable = ⊥

-- where a draft stands whose changes come to this
abbrev pub IsStandingOn : Result OnNode Refusal → List Asked → Standing → Type 0
IsStandingOn (Err refusal) found standing = standing ≡ Untestable
IsStandingOn (Ok node) found standing = IsTrying (set_of node) found standing

-- where the draft in a slot stands
abbrev pub IsStanding : Option Live → Standing → Type 0
IsStanding None standing = standing ≡ NoSuchDraft
IsStanding (Some l) standing = IsStandingOn (on_base l.draft) l.found standing

-- the question on the candidate of a name, where the changes come to this
abbrev pub IsQuestionOn :
    Result OnNode Refusal → List Asked → List ℕ → Option QuestionData → Type 0
IsQuestionOn (Err refusal) found name question = question ≡ None
IsQuestionOn (Ok node) found name question = IsQuestionNamed (set_of node) found name question

-- the question on the candidate of a name, for the draft in a slot
abbrev pub IsQuestionOf : Option Live → List ℕ → Option QuestionData → Type 0
IsQuestionOf None name question = question ≡ None
IsQuestionOf (Some l) name question = IsQuestionOn (on_base l.draft) l.found name question
