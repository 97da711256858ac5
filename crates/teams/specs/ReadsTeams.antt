-- What reading the documents of teams answers.
use Rattle.std.specs.Prelude.{◌≡◌, ℕ, ◌+◌, ◌<◌, ◌≤◌, List, [], ◌∷◌, map, length, Some, None, Result, Ok, Err}
use Rattle.task_sheet.specs.ReadsSet.{ReadsSet, SaysDocument}
use Rattle.task_sheet.specs.SheetsFault.{sheets_fault}
use Rattle.task_sheet.specs.Rank.{IsByRank}
use Rattle.task_sheet.specs.declared.node.TheConstants.{INTERRUPT_LIMIT}
use Rattle.task_sheet.specs.declared.set.TaskSet.{TaskSet}
use Rattle.task_sheet.specs.declared.read.Document.{Document}
use Rattle.task_sheet.specs.declared.set.SetCause.TheVariants as cause
use Rattle.task_sheet.specs.declared.read.SetFault.TheVariants as fault
use Rattle.teams.specs.Agreeing.{disagreement, interrupts_by, node_by, node_disagreement, preferred_by}
use Rattle.teams.specs.Owned.{OwnedData, TeamSetData, owned_all, taken_at}
use Rattle.teams.specs.declared.reading.Part.{Part}
use Rattle.teams.specs.declared.fault.TeamsFault.{TeamsFault}
use Rattle.teams.specs.declared.fault.TeamsFault.TheVariants.{Of, OtherPreference, OtherNode, TooManyInterrupts, TooManyTasks, OutOfMemory}

-- the answer on a team's document: its set, or why it is none
abbrev pub ReadsPart : Part → Result TeamSetData TeamsFault → Type 0
ReadsPart p (Ok s) = (s.team ≡ p.team) × SaysDocument p.text.now s.set s.prefers s.node s.interrupts
ReadsPart p (Err (Of team fault.OutOfMemory)) = ⊥
ReadsPart p (Err (Of team e)) = (team ≡ p.team) × ReadsSet p.text.now (Err e)
ReadsPart p (Err OutOfMemory) = Unit {0}
ReadsPart p (Err _) = ⊥

-- these are the sets of the documents, in their order
abbrev pub AreRead : List Part → List TeamSetData → Type 0
AreRead [] [] = Unit {0}
AreRead (p ∷ parts) (s ∷ sets) = ReadsPart p (Ok s) × AreRead parts sets
AreRead _ _ = ⊥

-- the answer on the tasks of all: the set of them; or the first that has the name of one before it, or that there are
-- too many
abbrev pub Unites : List OwnedData → Result TaskSet TeamsFault → Type 0
Unites tasks (Ok set) =
    (sheets_fault (map (λ o. o.sheet) tasks) ≡ None) × IsByRank (map (λ o. o.sheet) tasks) set
Unites tasks (Err OutOfMemory) = Unit {0}
Unites tasks (Err TooManyTasks) =
    sheets_fault (map (λ o. o.sheet) tasks) ≡ Some cause.TooManyTasks
Unites tasks (Err e) =
    (place : ℕ) × (sheets_fault (map (λ o. o.sheet) tasks) ≡ Some (cause.SameName (place + 1)))
    × (e ≡ taken_at tasks place)

-- no document prefers otherwise than one before it, or says another node, and the interrupts of all are not too many
pub record DoAgree (sets : List TeamSetData) : Type 0 where
  pub preference : disagreement sets ≡ None
  pub node : node_disagreement sets ≡ None
  pub interrupts : length (interrupts_by sets) ≤ INTERRUPT_LIMIT

-- the answer on the sets of teams: the set of all their tasks, what they prefer, the node, and the interrupts of all; or
-- the first that prefers otherwise than one before it, then the first that says another node, then that the interrupts
-- are too many, and then why the tasks of all are no set
abbrev pub UnitesAll : List TeamSetData → Result Document TeamsFault → Type 0
UnitesAll sets (Ok d) =
    DoAgree sets × (d.prefers ≡ preferred_by sets) × (d.node ≡ node_by sets)
    × (d.interrupts.items ≡ interrupts_by sets) × Unites (owned_all sets) (Ok d.set)
UnitesAll sets (Err OutOfMemory) = Unit {0}
UnitesAll sets (Err (OtherPreference team other)) =
    disagreement sets ≡ Some (OtherPreference team other)
UnitesAll sets (Err (OtherNode team other)) =
    (disagreement sets ≡ None) × (node_disagreement sets ≡ Some (OtherNode team other))
UnitesAll sets (Err TooManyInterrupts) =
    (disagreement sets ≡ None) × (node_disagreement sets ≡ None)
    × (INTERRUPT_LIMIT < length (interrupts_by sets))
UnitesAll sets (Err e) = DoAgree sets × Unites (owned_all sets) (Err e)
