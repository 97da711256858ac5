-- Locks: those of the rows, each once, by name, and their tones.
use Rattle.std.specs.Prelude.{ℕ, Bool, nat_lt, if◌then◌else◌, Option, Some, None, List, [], ◌∷◌, insert, length, position}
use Rattle.std.specs.Option.{unwrap_or}
use Rattle.std.specs.Ordering.{is_lt, nat_cmp}
use Rattle.std.specs.Cmp.Lexicographic.{slice_cmp}
use Rattle.task_sheet.specs.Sheet.{CriticalSection, same_bytes}
use Rattle.frames.specs.declared.locks.TheConstants.{LOCKS_LIMIT}
use Rattle.frames.specs.declared.rows.TaskRow.{TaskRow}
use Rattle.frames.specs.declared.tones.TheConstants.{LOCK_TONES}
use Rattle.frames.specs.declared.tones.Toned.{Toned}
use Rattle.frames.specs.Tones.{tones_of}

-- a name stands before another
abbrev pub is_less : List ℕ → List ℕ → Bool
is_less name other = is_lt (slice_cmp nat_cmp name other)

-- the place of a lock among some
abbrev pub name_place : List (List ℕ) → List ℕ → Option ℕ
name_place locks name = position (λ n. same_bytes n name) locks

-- where a lock's name stands among some: before the first one behind it
abbrev pub place_of : List (List ℕ) → List ℕ → ℕ
place_of locks name = unwrap_or (position (λ n. is_less name n) locks) (length locks)

-- some locks, and one more that isn't among them where there is room: rows of a set have fewer
abbrev pub noted_new : List (List ℕ) → List ℕ → Option ℕ → List (List ℕ)
noted_new locks name (Some k) = locks
noted_new locks name None =
    if nat_lt (length locks) LOCKS_LIMIT then insert locks (place_of locks name) name else locks

-- the same, where it may be among them
abbrev pub noted : List (List ℕ) → List ℕ → List (List ℕ)
noted locks name = noted_new locks name (name_place locks name)

-- and those of some names
abbrev pub noted_names : List (List ℕ) → List (List ℕ) → List (List ℕ)
noted_names locks [] = locks
noted_names locks (name ∷ names) = noted_names (noted locks name) names

-- and those of some sections
abbrev pub noted_sections : List (List ℕ) → List CriticalSection → List (List ℕ)
noted_sections locks [] = locks
noted_sections locks (x ∷ sections) = noted_sections (noted_names locks x.locks) sections

-- and those of some rows
abbrev pub noted_rows : List (List ℕ) → List TaskRow → List (List ℕ)
noted_rows locks [] = locks
noted_rows locks (row ∷ rows) = noted_rows (noted_sections locks row.sheet.sections) rows

-- the names of the rows' locks, each once, the least first
abbrev pub lock_names : List TaskRow → List (List ℕ)
lock_names rows = noted_rows [] rows

-- the same with their tones
abbrev pub locks_of : List TaskRow → List Toned
locks_of rows = tones_of LOCK_TONES (lock_names rows)

-- those of the rows of two runs, with one tone each
abbrev pub locks_beside : (old new : List TaskRow) → List Toned
locks_beside old new = tones_of LOCK_TONES (noted_rows (lock_names old) new)
