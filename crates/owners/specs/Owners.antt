-- Whose the tasks and interrupts of a set are: the node's, and those of the teams whose documents are gathered in its text.
use Rattle.std.specs.Prelude.{◌≡◌, ◌⊎◌, ℕ, zero, suc, ◌+◌, ◌-◌, ◌==◌, Bool, true, false, List, [], ◌∷◌, ◌++◌, map, codes, Option, None, Some, is_some, option_map, Err, if◌then◌else◌}
use Rattle.std.specs.Fmt.{decimal}
use Rattle.toml.specs.Data.{Members}
use Rattle.task_sheet.specs.Tree.{tables_at}
use Rattle.task_sheet.specs.TreeFault.{interrupts_fault}
use Rattle.task_sheet.specs.declared.keys.Key.TheVariants as key
use Rattle.task_sheet.specs.Sheet.{Task, same_bytes}
use Rattle.task_sheet.specs.declared.node.Interrupt.{Interrupt}
use Rattle.task_sheet.specs.ReadsSet.{IsDocument, SaysDocument}
use Rattle.task_sheet.specs.declared.read.Document.{Document}
use Rattle.task_sheet.specs.declared.read.SetFault.{SetFault}
use Rattle.teams.specs.Owned.{TeamSetData}
use Rattle.teams.specs.NodeDocument.{own_of}
use Rattle.teams.specs.Gathering.{AreGathered, HasNoHead, HasNoNode, IsFirstPart, IsNodePart}
use Rattle.teams.specs.ReadsTeams.{ReadsPart}
use Rattle.teams.specs.ReadsText.{is_gathered}
use Rattle.teams.specs.declared.fault.TeamsFault.TheVariants.{Of}
use Rattle.teams.specs.declared.reading.Part.{Part}
use Rattle.owners.specs.Followers.{AreFollowersIf}
use Rattle.task_lines.specs.Teams.{team_of}
use Rattle.task_lines.specs.declared.owner.Owner.{Owner}
use Rattle.task_lines.specs.declared.owner.Owner.TheVariants.{Task as OwnedTask, Interrupt as OwnedInterrupt, Follower, Clocked}

-- the first is this one, or else what the others have of it: where the first is no interrupt, and where it is one before it
abbrev pub unless_before : Owner → (place : ℕ) → (same less : Option (List ℕ)) → Option (List ℕ)
unless_before (OwnedTask task team) place same less = same
unless_before (OwnedInterrupt team) place same less = if place == 0 then Some team else less
unless_before (Follower task own) place same less = same
unless_before (Clocked task) place same less = same

-- whose the interrupt at a place among all is, from 0
abbrev pub interrupt_team : List Owner → ℕ → Option (List ℕ)
interrupt_team [] place = None
interrupt_team (o ∷ owners) place =
    unless_before o place (interrupt_team owners place) (interrupt_team owners (place - 1))

-- the team is this one
abbrev pub is_team : List ℕ → Option (List ℕ) → Bool
is_team team None = false
is_team team (Some said) = same_bytes said team

-- a team has a task
abbrev pub has_task : List Owner → (team : List ℕ) → Task → Bool
has_task owners team t = is_team team (team_of owners t.name)

-- the interrupt at a place is of this team
abbrev pub is_interrupt_of : List Owner → (team : List ℕ) → ℕ → Bool
is_interrupt_of owners team place = is_team team (interrupt_team owners place)

-- how many numbers below n pass
abbrev pub number_below : ℕ → (ℕ → Bool) → ℕ
number_below zero test = 0
number_below (suc n) test = number_below n test + (if test n then 1 else 0)

-- a team with the place, from 1, of an interrupt among those of all its documents
abbrev pub with_place : List Owner → ℕ → (team : List ℕ) → List ℕ × ℕ
with_place owners place team = (team, number_below place (is_interrupt_of owners team) + 1)

-- the team of the interrupt at a place among all, from 0, and which of that team's it is
abbrev pub interrupt_of : List Owner → ℕ → Option (List ℕ × ℕ)
interrupt_of owners place = option_map (with_place owners place) (interrupt_team owners place)

-- the words of an interrupt at a place among all, by its team and its place there, where there is one
abbrev pub words_at : ℕ → Option (List ℕ × ℕ) → List ℕ
words_at place None = codes "interrupt " ++ decimal (place + 1)
words_at place (Some own) = own.0 ++ codes " interrupt " ++ decimal own.1

-- what a line calls it: by its team and its place among that team's, where one of several documents has it
abbrev pub interrupt_words : List Owner → ℕ → List ℕ
interrupt_words owners place = words_at place (interrupt_of owners place)

-- a team's document is a set
abbrev pub IsDocumentOf : Part → Document → Type 0
IsDocumentOf p d = SaysDocument p.text.now d.set d.prefers d.node d.interrupts.items

-- it is none
abbrev pub IsNoDocument : Part → Type 0
IsNoDocument p = (fault : SetFault) × ReadsPart p (Err (Of p.team fault))

-- the tasks of a team's set
abbrev pub owned_by : List ℕ → List Task → List Owner
owned_by team U = map (λ t. OwnedTask t.name team) U

-- the interrupts of a team's document
abbrev pub interrupts_by : List ℕ → List Interrupt → List Owner
interrupts_by team interrupts = map (λ i. OwnedInterrupt team) interrupts

-- those of each team's document, in their order
abbrev pub owners_of : List TeamSetData → List Owner
owners_of [] = []
owners_of (s ∷ sets) =
    owned_by s.team s.set ++ interrupts_by s.team s.interrupts ++ owners_of sets

-- a text begins with no document that is a set
abbrev pub HasNoSet : List ℕ → Type 0
HasNoSet text =
    HasNoHead text
    ⊎ ((p : Part) × (after : List ℕ) × IsFirstPart text p.team p.text.now after × IsNoDocument p)

-- these have the tasks and interrupts of the documents that a text begins with, up to the first that is no set: in a set's
-- text, of all
abbrev pub AreOwnersIn : List ℕ → List Owner → Type 0
AreOwnersIn text owners =
    (sets : List TeamSetData) × (rest : List ℕ) × AreGathered text rest sets × HasNoSet rest
    × (owners ≡ owners_of sets)

-- ---- the node's document
-- whose the interrupts of a document are
abbrev pub owners_by : TeamSetData → List Owner
owners_by own = interrupts_by own.team own.interrupts

-- those of the node's, by the name that it has among those of teams; none where they have a fault
abbrev pub node_owners : Members → List Owner
node_owners tree =
    if is_some (interrupts_fault (tables_at key.Interrupt tree)) then [] else owners_by (own_of tree)

-- these are its own; none where it is no document
abbrev pub AreNodeOwners : List ℕ → List Owner → Type 0
AreNodeOwners document owners =
    ((tree : Members) × IsDocument document tree × (owners ≡ node_owners tree))
    ⊎ (((tree : Members) → IsDocument document tree → ⊥) × (owners ≡ []))

-- its own, and those of the teams' documents behind them, as the set of all has its interrupts
abbrev pub AreBoth : (document text : List ℕ) → List Owner → Type 0
AreBoth document text owners =
    (own : List Owner) × (teams : List Owner) × AreNodeOwners document own × AreOwnersIn text teams
    × (owners ≡ own ++ teams)

-- the same of documents that the node's may stand before
abbrev pub AreOwnersBehind : List ℕ → List Owner → Type 0
AreOwnersBehind text owners =
    ((document : List ℕ) × (after : List ℕ) × IsNodePart text document after
    × AreBoth document after owners)
    ⊎ (HasNoNode text × AreOwnersIn text owners)

abbrev pub AreOwnersIf : Bool → List ℕ → List Owner → Type 0
AreOwnersIf true text owners = AreOwnersBehind text owners
AreOwnersIf false text owners = owners ≡ []

-- these have the tasks and interrupts of a set's text; none does where the text is one document
abbrev pub AreWhose : List ℕ → List Owner → Type 0
AreWhose text owners = AreOwnersIf (is_gathered text) text owners

-- this is what a set's text says beside the set: whose each task and interrupt is, and the sections that follow
abbrev pub AreOwners : List ℕ → List Owner → Type 0
AreOwners text owners =
    (whose : List Owner) × (followers : List Owner) × AreWhose text whose
    × AreFollowersIf (is_gathered text) text followers
    × (owners ≡ whose ++ followers)
