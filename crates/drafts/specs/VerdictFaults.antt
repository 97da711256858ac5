-- Verdicts that are brought to a draft.
use Rattle.std.specs.Prelude.{◌≡◌, List, Result, Ok, Err}
use Rattle.task_sheet.specs.Sheet.{Task}
use Rattle.assignment.specs.declared.verdict.Verdict.{Verdict}
use Rattle.assignment.specs.Verdict as of
use Rattle.drafts.specs.declared.change.Refusal.{Refusal}
use Rattle.drafts.specs.declared.proposal.VerdictFault.{VerdictFault}
use Rattle.drafts.specs.declared.proposal.VerdictFault.TheVariants.{Stranger, OutOfMemory}
use Rattle.drafts.specs.Applied.{OnNode, set_of}
use Rattle.drafts.specs.Edits.{Draft, on_base}

-- the changes apply, and come to that set
abbrev pub IsOnSet : Result OnNode Refusal → List Task → Type 0
IsOnSet (Err refusal) U = ⊥
IsOnSet (Ok node) U = U ≡ set_of node

-- draft and verdict are handed back; a stranger is on another set
abbrev pub IsVerdictFault : Draft → Verdict → VerdictFault → Type 0
IsVerdictFault d v (Stranger draft verdict) =
    (draft ≡ d) × (verdict ≡ v) × (¬ IsOnSet (on_base d) (of.verdict_set v))
IsVerdictFault d v (OutOfMemory draft verdict) = (draft ≡ d) × (verdict ≡ v)
