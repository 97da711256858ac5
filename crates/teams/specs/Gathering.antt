-- The documents of teams in one text: each behind a line that names the team and counts the document's bytes, and begins
-- as a comment of TOML does.
use Rattle.std.specs.Prelude.{◌≡◌, ◌≢◌, ◌⊎◌, ℕ, ◌+◌, List, [], ◌∷◌, ◌++◌, length, codes, Some, Result, Ok, Err}
use Rattle.lines.specs.TextLines.{parts}
use Rattle.lines.specs.Words.{name_in, number_in, words}
use Rattle.task_sheet.specs.declared.read.Document.{Document}
use Rattle.teams.specs.Owned.{TeamSetData}
use Rattle.teams.specs.ReadsTeams.{AreRead, ReadsPart, UnitesAll}
use Rattle.teams.specs.declared.fault.TeamsFault.{TeamsFault}
use Rattle.teams.specs.declared.fault.TeamsFault.TheVariants.{BadHead, Of, OutOfMemory}
use Rattle.teams.specs.declared.reading.Part.{Part}

-- the line is `#% TEAM COUNT`
abbrev pub IsHead : List ℕ → List ℕ → ℕ → Type 0
IsHead line team count =
    (name : List ℕ) × (number : List ℕ) × (words line ≡ codes "#%" ∷ name ∷ number ∷ [])
    × (name_in name ≡ Some team) × (number_in number ≡ Some count)

-- a text begins with such a line, a document of as many bytes as it counts, and this stands behind it
abbrev pub IsPartBy : (List ℕ → ℕ → Type 0) → List ℕ → (document after : List ℕ) → Type 0
IsPartBy IsHeadLine text document after =
    (line : List ℕ) × (rest : List ℕ) × (parts text ≡ line ∷ parts rest)
    × IsHeadLine line (length document) × (rest ≡ document ++ after)

-- a text begins with a team's document, and this stands behind it
abbrev pub IsFirstPart : List ℕ → (team document after : List ℕ) → Type 0
IsFirstPart text team document after =
    IsPartBy (λ line count. IsHead line team count) text document after

-- the line is `#% COUNT`
abbrev pub IsNodeHead : List ℕ → ℕ → Type 0
IsNodeHead line count =
    (number : List ℕ) × (words line ≡ codes "#%" ∷ number ∷ []) × (number_in number ≡ Some count)

-- a text begins with the node's document, and this stands behind it
abbrev pub IsNodePart : List ℕ → (document after : List ℕ) → Type 0
IsNodePart text document after = IsPartBy IsNodeHead text document after

-- a text begins with no node's document
abbrev pub HasNoNode : List ℕ → Type 0
HasNoNode text = (document after : List ℕ) → IsNodePart text document after → ⊥

-- a text begins with these documents, and this stands behind them
abbrev pub Begins : List ℕ → List Part → List ℕ → Type 0
Begins text [] rest = text ≡ rest
Begins text (p ∷ ps) rest =
    (after : List ℕ) × IsFirstPart text p.team p.text.now after × Begins after ps rest

-- these are the sets of the documents that a text begins with, up to what stands behind them
abbrev pub AreGathered : List ℕ → List ℕ → List TeamSetData → Type 0
AreGathered text rest sets = (ps : List Part) × Begins text ps rest × AreRead ps sets

-- a text is documents of teams, and this is the set of their tasks, with what they say together
abbrev pub IsGathered : List ℕ → Document → Type 0
IsGathered text d = (sets : List TeamSetData) × AreGathered text [] sets × UnitesAll sets (Ok d)

-- a text begins with no document
abbrev pub HasNoHead : List ℕ → Type 0
HasNoHead text = (team document after : List ℕ) → IsFirstPart text team document after → ⊥

-- behind so many documents, which are sets, something stands that begins with none
abbrev pub IsCutOff : List ℕ → ℕ → Type 0
IsCutOff text part =
    (ps : List Part) × (sets : List TeamSetData) × (rest : List ℕ) × Begins text ps rest
    × AreRead ps sets × (rest ≢ []) × HasNoHead rest × (part ≡ length ps + 1)

-- behind documents that are sets stands one that is none, for this fault
abbrev pub IsStopped : List ℕ → TeamsFault → Type 0
IsStopped text e =
    (ps : List Part) × (sets : List TeamSetData) × (rest : List ℕ) × (p : Part)
    × (after : List ℕ) × Begins text ps rest × AreRead ps sets
    × IsFirstPart rest p.team p.text.now after × ReadsPart p (Err e)

-- why a text is no documents of teams: the first part that is none
abbrev pub IsNoDocuments : List ℕ → TeamsFault → Type 0
IsNoDocuments text OutOfMemory = Unit {0}
IsNoDocuments text (BadHead part) = IsCutOff text part
IsNoDocuments text (Of team fault) = IsStopped text (Of team fault)
IsNoDocuments text _ = ⊥

-- why it is none with a set: the same, or why the tasks of all are no set
abbrev pub IsNotGathered : List ℕ → TeamsFault → Type 0
IsNotGathered text OutOfMemory = Unit {0}
IsNotGathered text e =
    IsNoDocuments text e
    ⊎ ((sets : List TeamSetData) × AreGathered text [] sets × UnitesAll sets (Err e))

-- the answer on a text of documents of teams
abbrev pub ReadsGathered : List ℕ → Result Document TeamsFault → Type 0
ReadsGathered text (Ok d) = IsGathered text d
ReadsGathered text (Err e) = IsNotGathered text e
