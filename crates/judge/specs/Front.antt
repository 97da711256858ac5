-- Settings in front of another text.
use Rattle.std.specs.Prelude.{ℕ, Bool, false, ◌||◌, List, [], ◌∷◌, Result, bytes_eq, codes, if◌then◌else◌}
use Rattle.lines.specs.TextLines.{kept_lines}
use Rattle.lines.specs.Words.{words}
use Rattle.judge.specs.SettingLines.{rows_from}
use Rattle.judge.specs.declared.rows.SettingRow.{SettingRow}

-- the first of these words says that a line sets a thread or a mutex
abbrev pub is_setting : List (List ℕ) → Bool
is_setting [] = false
is_setting (word ∷ rest) = bytes_eq word (codes "thread") || bytes_eq word (codes "mutex")

-- of numbered lines, those in front of the first that sets none
abbrev pub front_of : List (ℕ × List ℕ) → List (ℕ × List ℕ)
front_of [] = []
front_of (l ∷ ls) = if is_setting (words l.1) then l ∷ front_of ls else []

-- that line and those behind it
abbrev pub behind_front : List (ℕ × List ℕ) → List (ℕ × List ℕ)
behind_front [] = []
behind_front (l ∷ ls) = if is_setting (words l.1) then behind_front ls else l ∷ ls

-- what the settings in front of a text say, or the number of their first faulty line
abbrev pub settings_in : List ℕ → Result (List SettingRow) ℕ
settings_in text = rows_from (front_of (kept_lines text))
