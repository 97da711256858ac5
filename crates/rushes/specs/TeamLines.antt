-- Which lines of a script are a team's: those that open its drafts, and those on its drafts.
use Rattle.std.specs.Prelude.{◌≡◌, ℕ, ◌+◌, ◌-◌, ◌==◌, ◌≤◌, List, [], ◌∷◌, ◌++◌, length, Option, None, Some, option_map, option_to_list, slice_get, slice_index_or, if◌then◌else◌}
use Rattle.std.specs.Option.{option_map_or}
use Rattle.drafts.specs.declared.team.TheConstants.{TEAM_LIMIT}
use Rattle.scripts.specs.declared.line.Line.{Line}
use Rattle.scripts.specs.declared.line.Row.{Row}
use Rattle.scripts.specs.declared.line.Row.TheVariants.{Open, Put, Remove, Found, Test, Commit, Abandon}

-- a line of a team, and the number of the draft that it opens or is on
pub record TeamLine : Type 0 where
  pub line : Line
  pub draft : ℕ

-- the team for which a line opens a draft, if it opens one
abbrev pub opens : Row → Option ℕ
opens (Open team) = Some team
opens row = None

-- the number of the draft that a line is on; 0 where it opens one
abbrev pub line_draft : Row → ℕ
line_draft (Open team) = 0
line_draft (Put number sheet) = number
line_draft (Remove number name) = number
line_draft (Found number name other) = number
line_draft (Test number) = number
line_draft (Commit number) = number
line_draft (Abandon number) = number

-- the team of the draft of that number, from 1
abbrev pub opener_of : List ℕ → ℕ → Option ℕ
opener_of openers number = if number == 0 then None else slice_get openers (number - 1)

-- the team and the number of the draft that a line opens or is on, where these teams opened the drafts above; none where
-- no line above opened it
abbrev pub draft_of : List ℕ → Row → Option (ℕ × ℕ)
draft_of openers row =
    option_map_or (λ team. Some (team, length openers + 1)) (opens row)
    (option_map (λ team. (team, line_draft row)) (opener_of openers (line_draft row)))

-- the teams that opened the drafts, after a line
abbrev pub openers_after : List ℕ → Row → List ℕ
openers_after openers row = openers ++ option_to_list (opens row)

-- a line, if its draft is the team's
abbrev pub if_own : ℕ → Line → Option (ℕ × ℕ) → List TeamLine
if_own team line None = []
if_own team line (Some d) = if d.0 == team then record { line = line; draft = d.1 } ∷ [] else []

-- the lines of a team, where these teams opened the drafts above
abbrev pub lines_of : ℕ → List ℕ → List Line → List TeamLine
lines_of team openers [] = []
lines_of team openers (line ∷ lines) =
    if_own team line (draft_of openers line.row)
    ++ lines_of team (openers_after openers line.row) lines

-- each team's part, with its lines of those that are left, is its lines of the script
abbrev pub IsSplit : List Line → List Line → List ℕ → List (List TeamLine) → Type 0
IsSplit script left openers parts =
    (team : ℕ) → 1 ≤ team → team ≤ TEAM_LIMIT
    → slice_index_or parts (team - 1) [] ++ lines_of team openers left ≡ lines_of team [] script
