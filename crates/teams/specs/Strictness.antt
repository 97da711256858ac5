-- Whether a set's text asks that the set have no doubt.
use Rattle.std.specs.Prelude.{◌≡◌, ℕ, List, Bool, true, false, Ok}
use Rattle.teams.specs.Gathering.{IsNodePart}
use Rattle.teams.specs.NodeDocument.{NodeData, ReadsNodeDocument}
use Rattle.teams.specs.ReadsText.{is_gathered}

-- in front of the documents of teams stands the node's, which says `strict = true`
abbrev pub IsStrict : List ℕ → Type 0
IsStrict text =
    (document : List ℕ) × (after : List ℕ) × (n : NodeData) × (is_gathered text ≡ true)
    × IsNodePart text document after × ReadsNodeDocument document (Ok n) × (n.is_strict ≡ true)

-- whether that is so
abbrev pub SaysStrict : List ℕ → Bool → Type 0
SaysStrict text true = IsStrict text
SaysStrict text false = IsStrict text → ⊥
