-- What reading a set's text answers.
use Rattle.std.specs.Prelude.{◌≡◌, ◌⊎◌, ℕ, List, [], ◌∷◌, Bool, true, false, codes, nat_eq, Some, None, Result, Ok, Err}
use Rattle.std.specs.List.{starts_with}
use Rattle.task_sheet.specs.ReadsSet.{ReadsSet, ReadsDocument}
use Rattle.task_sheet.specs.declared.read.Document.{Document}
use Rattle.task_sheet.specs.declared.read.SetFault.TheVariants as fault
use Rattle.teams.specs.Owned.{TeamSetData}
use Rattle.teams.specs.ReadsTeams.{UnitesAll}
use Rattle.teams.specs.Gathering.{AreGathered, HasNoNode, IsNodePart, IsNoDocuments, ReadsGathered}
use Rattle.teams.specs.NodeDocument.{NodeData, ReadsNodeDocument}
use Rattle.teams.specs.Budgets.{budgets_fault}
use Rattle.teams.specs.Rights.{rights_fault}
use Rattle.teams.specs.Naming.{locks_fault, named_by}
use Rattle.std.specs.Option.{option_or}
use Rattle.teams.specs.declared.node.Budget.{Budget}
use Rattle.teams.specs.declared.node.NodeFault.TheVariants as node
use Rattle.teams.specs.declared.fault.TeamsFault.{TeamsFault}
use Rattle.teams.specs.declared.fault.TeamsFault.TheVariants.{Alone, Node, Padded, OutOfMemory}
use Rattle.overheads.specs.Padding.{IsPadded, fault_by}
use Rattle.overheads.specs.declared.padding.PadFault.TheVariants as pad

-- the answer on a text that is one document; out of memory is one fault, whoever saw it
abbrev pub ReadsAlone : List ℕ → Result Document TeamsFault → Type 0
ReadsAlone text (Ok d) = ReadsDocument text (Ok d)
ReadsAlone text (Err OutOfMemory) = Unit {0}
ReadsAlone text (Err (Alone fault.OutOfMemory)) = ⊥
ReadsAlone text (Err (Alone e)) = ReadsSet text (Err e)
ReadsAlone text (Err _) = ⊥

-- a text that begins so is documents of teams
abbrev pub is_gathered : List ℕ → Bool
is_gathered text = starts_with nat_eq text (codes "#% ")

-- the tasks of teams are a set
abbrev pub IsUnited : List TeamSetData → Type 0
IsUnited sets = (d : Document) × UnitesAll sets (Ok d)

-- the answer on the node's document; out of memory is one fault, whoever saw it
abbrev pub ReadsNode : List ℕ → Result NodeData TeamsFault → Type 0
ReadsNode text (Ok n) = ReadsNodeDocument text (Ok n)
ReadsNode text (Err OutOfMemory) = Unit {0}
ReadsNode text (Err (Node node.OutOfMemory)) = ⊥
ReadsNode text (Err (Node e)) = ReadsNodeDocument text (Err e)
ReadsNode text (Err _) = ⊥

-- the node's document says nothing for all teams, and lists no locks
abbrev pub SaysNothing : List ℕ → Type 0
SaysNothing document =
    (n : NodeData) → ReadsNodeDocument document (Ok n)
    → (n.own.prefers ≡ None) × (n.own.node ≡ None) × (n.own.interrupts ≡ []) × (n.locks ≡ None)

-- the answer on what is said for all and on the sets of teams: all that is said together, where each team keeps to its
-- budget; else why all are no set, or the first budget to which its team doesn't keep
abbrev pub Joins : TeamSetData → List Budget → List TeamSetData → Result Document TeamsFault → Type 0
Joins own budgets sets (Ok d) =
    UnitesAll (own ∷ sets) (Ok d) × (budgets_fault sets budgets ≡ None)
Joins own budgets sets (Err OutOfMemory) = Unit {0}
Joins own budgets sets (Err e) =
    UnitesAll (own ∷ sets) (Err e)
    ⊎ (IsUnited (own ∷ sets) × (budgets_fault sets budgets ≡ Some e))

-- no team says what is the node's without the right to, or takes a lock that isn't listed
pub record MayJoin (n : NodeData) (sets : List TeamSetData) : Type 0 where
  pub rights : rights_fault n.budgets sets ≡ None
  pub locks : locks_fault n.locks sets ≡ None

-- the answer on what the node's document says and on the sets of teams: the same, with locks by their own names, where the
-- teams may join; else the first that says what is the node's, or that takes another lock
abbrev pub Judges : NodeData → List TeamSetData → Result Document TeamsFault → Type 0
Judges n sets (Ok d) = MayJoin n sets × Joins n.own n.budgets (named_by n.locks sets) (Ok d)
Judges n sets (Err OutOfMemory) = Unit {0}
Judges n sets (Err e) =
    (option_or (rights_fault n.budgets sets) (locks_fault n.locks sets) ≡ Some e)
    ⊎ (MayJoin n sets × Joins n.own n.budgets (named_by n.locks sets) (Err e))

-- the node's document and those of teams are read, and this is the answer on what they say
abbrev pub AreJudged : List ℕ → List ℕ → Result Document TeamsFault → Type 0
AreJudged document text answer =
    (n : NodeData) × (sets : List TeamSetData) × ReadsNodeDocument document (Ok n)
    × AreGathered text [] sets × Judges n sets answer

-- the node's document is read, and those of the teams are none
abbrev pub AreCut : List ℕ → List ℕ → TeamsFault → Type 0
AreCut document text e =
    (n : NodeData) × ReadsNodeDocument document (Ok n) × IsNoDocuments text e

-- the answer on the node's document and those of the teams behind it: that on what they say; else why the node's is none,
-- or the first of the teams' that is none
abbrev pub ReadsBounded : List ℕ → List ℕ → Result Document TeamsFault → Type 0
ReadsBounded document text (Ok d) = AreJudged document text (Ok d)
ReadsBounded document text (Err OutOfMemory) = Unit {0}
ReadsBounded document text (Err e) =
    ReadsNode document (Err e) ⊎ AreCut document text e ⊎ AreJudged document text (Err e)

-- the answer on documents: the node's and those of the teams, or the latter alone
abbrev pub ReadsDocuments : List ℕ → Result Document TeamsFault → Type 0
ReadsDocuments text answer =
    ((document : List ℕ) × (after : List ℕ) × IsNodePart text document after
    × ReadsBounded document after answer)
    ⊎ (HasNoNode text × ReadsGathered text answer)

-- the answer on a text that is documents of teams, or is one document
abbrev pub ReadsEither : Bool → List ℕ → Result Document TeamsFault → Type 0
ReadsEither true text answer = ReadsDocuments text answer
ReadsEither false text answer = ReadsAlone text answer

-- the answer on a set's text, its tasks as they are written
abbrev pub ReadsWritten : List ℕ → Result Document TeamsFault → Type 0
ReadsWritten text (Err OutOfMemory) = Unit {0}
ReadsWritten text answer = ReadsEither (is_gathered text) text answer

-- the answer on a document: its set with what the node takes, where it says a node, and with the interrupts; or why
-- there is no room for that
abbrev pub Pads : Document → Result Document TeamsFault → Type 0
Pads u (Ok d) =
    IsPadded u.node u.interrupts.items u.set d.set × (d.prefers ≡ u.prefers) × (d.node ≡ u.node)
    × (d.interrupts.items ≡ u.interrupts.items)
Pads u (Err OutOfMemory) = Unit {0}
Pads u (Err (Padded pad.OutOfMemory)) = ⊥
Pads u (Err (Padded e)) = fault_by u.node u.set ≡ Some e
Pads u (Err _) = ⊥

-- the text says a set, and this is the answer on it with what the node takes
abbrev pub ReadsThenPads : List ℕ → Result Document TeamsFault → Type 0
ReadsThenPads text answer = (u : Document) × ReadsWritten text (Ok u) × Pads u answer

-- the answer on a set's text
abbrev pub ReadsText : List ℕ → Result Document TeamsFault → Type 0
ReadsText text (Ok d) = ReadsThenPads text (Ok d)
ReadsText text (Err OutOfMemory) = Unit {0}
ReadsText text (Err e) = ReadsWritten text (Err e) ⊎ ReadsThenPads text (Err e)
