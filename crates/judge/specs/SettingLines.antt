-- The lines of settings: what a node's threads and mutexes are set to (POSIX.1-2017, SCHED_FIFO and
-- PTHREAD_PRIO_PROTECT).
use Rattle.std.specs.Prelude.{ℕ, ◌+◌, ◌-◌, Bool, true, false, ◌&&◌, nat_le, List, [], ◌∷◌, Option, Some, None, Result, bytes_eq, codes, map, if◌then◌else◌}
use Rattle.lines.specs.TextLines.{kept_lines, rows_by}
use Rattle.lines.specs.Words.{name_in, number_in}
use Rattle.judge.specs.declared.rows.SettingRow.{SettingRow}
use Rattle.judge.specs.declared.rows.SettingRow.TheVariants.{Thread, Mutex}
use Rattle.judge.specs.declared.rows.TheConstants.{NUMBER_LIMIT}
use Rattle.judge.specs.declared.rows.Setting.{Setting}

-- ---- a line
-- the number, where it is from 1 to the limit
abbrev pub in_range : Option ℕ → Option ℕ
in_range None = None
in_range (Some n) = if nat_le 1 n && nat_le n NUMBER_LIMIT then Some n else None

-- the number of a priority that a word is
abbrev pub number_in_range : List ℕ → Option ℕ
number_in_range word = in_range (number_in word)

-- what a line sets, where its words are a name and a number
abbrev pub setting_at : ℕ → Option (List ℕ) → Option ℕ → Option Setting
setting_at line None number = None
setting_at line (Some name) None = None
setting_at line (Some name) (Some number) =
    Some (record { line = line; name = name; number = number })

-- what a line of this first word says
abbrev pub setting_row : List ℕ → Setting → Option SettingRow
setting_row word setting =
    if bytes_eq word (codes "thread") then Some (Thread setting)
    else if bytes_eq word (codes "mutex") then Some (Mutex setting)
    else None

-- the same, where there is a setting
abbrev pub setting_row_if : List ℕ → Option Setting → Option SettingRow
setting_row_if word None = None
setting_row_if word (Some setting) = setting_row word setting

-- what a line `thread NAME NUMBER` or `mutex NAME NUMBER` says
abbrev pub setting_row_in : ℕ → List (List ℕ) → Option SettingRow
setting_row_in line [] = None
setting_row_in line (word ∷ []) = None
setting_row_in line (word ∷ name ∷ []) = None
setting_row_in line (word ∷ name ∷ number ∷ []) =
    setting_row_if word (setting_at line (name_in name) (number_in_range number))
setting_row_in line (word ∷ name ∷ number ∷ more ∷ rest) = None

-- ---- a text
-- the rows of numbered lines, or the number of the first faulty line
abbrev pub rows_from : List (ℕ × List ℕ) → Result (List SettingRow) ℕ
rows_from ls = rows_by setting_row_in ls

-- the rows of the lines of a text that are not skipped, or the number of the first faulty line
abbrev pub rows_in : List ℕ → Result (List SettingRow) ℕ
rows_in text = rows_from (kept_lines text)

-- what a row sets of a thread, in front of what others set
abbrev pub with_thread : SettingRow → List Setting → List Setting
with_thread (Thread setting) threads = setting ∷ threads
with_thread (Mutex setting) threads = threads

-- what a row sets of a mutex, in front of what others set
abbrev pub with_mutex : SettingRow → List Setting → List Setting
with_mutex (Thread setting) mutexes = mutexes
with_mutex (Mutex setting) mutexes = setting ∷ mutexes

-- what is set of threads, in the order of the lines
abbrev pub threads_of : List SettingRow → List Setting
threads_of [] = []
threads_of (row ∷ rows) = with_thread row (threads_of rows)

-- what is set of mutexes, in the order of the lines
abbrev pub mutexes_of : List SettingRow → List Setting
mutexes_of [] = []
mutexes_of (row ∷ rows) = with_mutex row (mutexes_of rows)

-- ---- how numbers count
-- a setting with its number turned around, by which the smallest becomes the greatest
abbrev pub turned : Setting → Setting
turned s = record { line = s.line; name = s.name; number = (NUMBER_LIMIT + 1) - s.number }

-- settings with numbers of which a greater one is higher: as they are, or, where lower is higher, turned
abbrev pub heights : (lower : Bool) → List Setting → List Setting
heights false settings = settings
heights true settings = map turned settings

-- the number by which a text says a height: itself, or, where lower is higher, turned back
abbrev pub as_written : (lower : Bool) → ℕ → ℕ
as_written false number = number
as_written true number = (NUMBER_LIMIT + 1) - number
