-- The chains that the documents of a set's text say.
use Rattle.std.specs.Prelude.{◌≡◌, ◌⊎◌, ℕ, Bool, true, false, List, [], ◌∷◌, ◌++◌, None, Some, option_map, Result, Ok, Err}
use Rattle.toml.specs.Data.{Members}
use Rattle.task_sheet.specs.ReadsSet.{IsDocument}
use Rattle.teams.specs.Gathering.{HasNoHead, HasNoNode, IsFirstPart, IsNodePart}
use Rattle.teams.specs.ReadsText.{is_gathered}
use Rattle.teams.specs.declared.reading.Part.{Part}
use Rattle.chain_tables.specs.Tables.{WrittenData, chains_in, document_fault}
use Rattle.chain_tables.specs.declared.fault.Whose.{Whose}
use Rattle.chain_tables.specs.declared.fault.Whose.TheVariants.{Alone, Node, Team}
use Rattle.chain_tables.specs.declared.fault.ChainFault.{ChainFault}
use Rattle.chain_tables.specs.declared.fault.ChainFault.TheVariants.{Document}

-- a document says these chains; none where it is no document
abbrev pub Says : Whose → List ℕ → List WrittenData → Type 0
Says whose text own =
    ((tree : Members) × IsDocument text tree × (document_fault whose tree ≡ None)
    × (own ≡ chains_in whose tree))
    ⊎ (((tree : Members) → IsDocument text tree → ⊥) × (own ≡ []))

-- why it says none
abbrev pub IsFaulty : Whose → List ℕ → ChainFault → Type 0
IsFaulty whose text e =
    (tree : Members) × IsDocument text tree
    × (option_map (Document whose) (document_fault whose tree) ≡ Some e)

-- what is answered of chains that were read
abbrev pub Answers : Type 1
Answers = List WrittenData → Result (List WrittenData) ChainFault → Type 0

-- a document stands behind these chains: what is answered of them and its own, or why it says none
abbrev pub ReadsThen : Whose → List ℕ → Answers → Answers
ReadsThen whose text next before answer =
    ((own : List WrittenData) × Says whose text own × next (before ++ own) answer)
    ⊎ ((e : ChainFault) × IsFaulty whose text e × (answer ≡ Err e))

-- they are all
abbrev pub AreAll : Answers
AreAll told answer = answer ≡ Ok told

-- these documents of teams stand behind them, with which a text begins, and no others
abbrev pub ReadsParts : List Part → List ℕ → Answers
ReadsParts [] text before answer = HasNoHead text × AreAll before answer
ReadsParts (p ∷ ps) text before answer =
    (after : List ℕ) × IsFirstPart text p.team p.text.now after
    × ReadsThen (Team p.team) p.text.now (ReadsParts ps after) before answer

-- all documents of teams with which a text begins
abbrev pub ReadsTeams : List ℕ → Answers
ReadsTeams text before answer = (ps : List Part) × ReadsParts ps text before answer

-- by whether a text is documents of teams, in front of which the node's may stand, or one document
abbrev pub ReadsIf : Bool → List ℕ → Result (List WrittenData) ChainFault → Type 0
ReadsIf true text answer =
    ((document : List ℕ) × (after : List ℕ) × IsNodePart text document after
    × ReadsThen Node document (ReadsTeams after) [] answer)
    ⊎ (HasNoNode text × ReadsTeams text [] answer)
ReadsIf false text answer = ReadsThen Alone text AreAll [] answer

-- the chains of a set's text, in the order of the documents; or the first fault of a document
abbrev pub ReadsWritten : List ℕ → Result (List WrittenData) ChainFault → Type 0
ReadsWritten text answer = ReadsIf (is_gathered text) text answer
