-- Why a text is no settings of a set: the first reason, in the order of the tests.
use Rattle.std.specs.Prelude.{◌≡◌, ℕ, Bool, false, not, nat_lt, ◌==◌, List, [], ◌∷◌, ◌++◌, length, find, position, is_none, Option, Some, None, Result, Ok, Err, if◌then◌else◌}
use Rattle.std.specs.List.{list_any}
use Rattle.std.specs.Option.{option_or, option_map}
use Rattle.task_sheet.specs.Sheet.{Task, same_bytes, task_at}
use Rattle.task_sheet.specs.Indexes.{greatest_below}
use Rattle.task_sheet.specs.Locks.{uses}
use Rattle.ceilings.specs.IsTableOf.{locks_of}
use Rattle.judge.specs.SettingLines.{as_written, heights, mutexes_of, rows_in, threads_of}
use Rattle.judge.specs.declared.fault.SettingsFault.{SettingsFault}
use Rattle.judge.specs.declared.fault.SettingsFault.TheVariants as fault
use Rattle.judge.specs.declared.settings_fault.SettingField.{SettingField}
use Rattle.judge.specs.declared.settings_fault.SettingField.TheVariants.{Name, Number}
use Rattle.judge.specs.declared.rows.SettingRow.{SettingRow}
use Rattle.judge.specs.declared.rows.Setting.{Setting}

-- ---- what is set
-- some setting is of this name
abbrev pub is_set : List Setting → List ℕ → Bool
is_set settings name = list_any (λ s. same_bytes s.name name) settings

-- the number of the first setting of this name, and 0 of none
abbrev pub setting_number : List Setting → List ℕ → ℕ
setting_number [] name = 0
setting_number (s ∷ settings) name =
    if same_bytes s.name name then s.number else setting_number settings name

-- the number of a task's thread
abbrev pub thread_number : List Task → List Setting → ℕ → ℕ
thread_number U threads task = setting_number threads (task_at U task).name

-- the number of the highest user of a lock
abbrev pub top_number : List Task → List Setting → List ℕ → ℕ
top_number U threads lock =
    greatest_below (length U) (λ k. if uses (task_at U k) lock then thread_number U threads k
    else 0)

-- ---- the tests
-- no task has the name of the thread
abbrev pub is_no_task : List Task → Setting → Bool
is_no_task U s = is_none (position (λ t. same_bytes t.name s.name) U)

-- no lock has the name of the mutex
abbrev pub is_no_lock : List Task → Setting → Bool
is_no_lock U s = is_none (position (same_bytes s.name) (locks_of U))

-- the line of the first setting that passes a test
abbrev pub line_where : (Setting → Bool) → List Setting → Option ℕ
line_where test settings = option_map (λ s. s.line) (find test settings)

-- the line of the first setting that is like one before it, where some stand before these
abbrev pub line_again : (Setting → Setting → Bool) → (seen settings : List Setting) → Option ℕ
line_again alike seen [] = None
line_again alike seen (s ∷ settings) =
    if list_any (λ before. alike before s) seen then Some s.line
    else line_again alike (seen ++ s ∷ []) settings

-- the two are of one name
abbrev pub same_setting_name : Setting → Setting → Bool
same_setting_name r s = same_bytes r.name s.name

-- the two have one number
abbrev pub same_number : Setting → Setting → Bool
same_number r s = r.number == s.number

-- the two share a field
abbrev pub share : SettingField → Setting → Setting → Bool
share Name = same_setting_name
share Number = same_number

-- the name of the first task by rank that has no thread
abbrev pub threadless : List Task → List Setting → Option (List ℕ)
threadless U threads = option_map (λ t. t.name) (find (λ t. not (is_set threads t.name)) U)

-- where there are mutexes, the first of these locks that has none
abbrev pub mutexless : List (List ℕ) → List Setting → Option (List ℕ)
mutexless locks [] = None
mutexless locks (m ∷ mutexes) = find (λ lock. not (is_set (m ∷ mutexes) lock)) locks

-- where there are mutexes, the first of these locks whose mutex isn't at the number of its highest user
abbrev pub wrong_lock : List Task → List (List ℕ) → (threads mutexes : List Setting)
    → Option (List ℕ)
wrong_lock U locks threads [] = None
wrong_lock U locks threads (m ∷ mutexes) =
    find (λ lock. not (setting_number (m ∷ mutexes) lock == top_number U threads lock)) locks

-- where there are mutexes, the first of these locks whose mutex is below the number of its highest user
abbrev pub low_lock : List Task → List (List ℕ) → (threads mutexes : List Setting)
    → Option (List ℕ)
low_lock U locks threads [] = None
low_lock U locks threads (m ∷ mutexes) =
    find (λ lock. nat_lt (setting_number (m ∷ mutexes) lock) (top_number U threads lock)) locks

-- ---- the faults
-- the first reason that the lines of threads and mutexes give
abbrev pub line_fault : List Task → (threads mutexes : List Setting) → Option SettingsFault
line_fault U threads mutexes =
    option_or (option_map (λ line. fault.UnknownTask line) (line_where (is_no_task U) threads))
    (option_or (option_map (λ line. fault.UnknownLock line) (line_where (is_no_lock U) mutexes))
    (option_or (option_map (λ line. fault.SameTask line) (line_again same_setting_name [] threads))
    (option_or (option_map (λ line. fault.SameLock line) (line_again same_setting_name [] mutexes))
    (option_map (λ line. fault.SameNumber line) (line_again same_number [] threads)))))

-- the ceiling of a lock is wrong: the number of its highest user is this one, as the text has it
abbrev pub ceiling_fault : (lower : Bool) → List Task → List Setting → List ℕ → SettingsFault
ceiling_fault lower U threads lock =
    fault.WrongCeiling lock (as_written lower (top_number U threads lock))

-- the first reason that a task or a lock gives, where this lock's ceiling is wrong
abbrev pub name_fault : Option (List ℕ) → (lower : Bool) → List Task → (threads mutexes : List Setting)
    → Option SettingsFault
name_fault wrong lower U threads mutexes =
    option_or (option_map (λ name. fault.MissingTask name) (threadless U threads))
    (option_or (option_map (λ name. fault.MissingLock name) (mutexless (locks_of U) mutexes))
    (option_map (ceiling_fault lower U threads) wrong))

-- the first reason that threads and mutexes give then: the lines come first
abbrev pub fault_with : Option (List ℕ) → (lower : Bool) → List Task → (threads mutexes : List Setting)
    → Option SettingsFault
fault_with wrong lower U threads mutexes =
    option_or (line_fault U threads mutexes) (name_fault wrong lower U threads mutexes)

-- each ceiling has to be the least
abbrev pub setting_fault : (lower : Bool) → List Task → (threads mutexes : List Setting)
    → Option SettingsFault
setting_fault lower U threads mutexes =
    fault_with (wrong_lock U (locks_of U) threads mutexes) lower U threads mutexes

-- or at least that
abbrev pub given_fault : (lower : Bool) → List Task → (threads mutexes : List Setting)
    → Option SettingsFault
given_fault lower U threads mutexes =
    fault_with (low_lock U (locks_of U) threads mutexes) lower U threads mutexes

-- the first reason of a reading, whose numbers count so
abbrev pub rows_fault : (lower : Bool) → List Task → Result (List SettingRow) ℕ → Option SettingsFault
rows_fault lower U (Err line) = Some (fault.BadLine line)
rows_fault lower U (Ok rows) =
    setting_fault lower U (heights lower (threads_of rows)) (heights lower (mutexes_of rows))

-- the same, where ceilings may be higher than the least
abbrev pub given_rows_fault : (lower : Bool) → List Task → Result (List SettingRow) ℕ
    → Option SettingsFault
given_rows_fault lower U (Err line) = Some (fault.BadLine line)
given_rows_fault lower U (Ok rows) =
    given_fault lower U (heights lower (threads_of rows)) (heights lower (mutexes_of rows))

-- the first reason why a text, whose numbers count so, is no settings of a set
abbrev pub settings_fault_by : (lower : Bool) → List Task → List ℕ → Option SettingsFault
settings_fault_by lower U text = rows_fault lower U (rows_in text)

-- the same, where ceilings may be higher than the least
abbrev pub given_fault_by : (lower : Bool) → List Task → List ℕ → Option SettingsFault
given_fault_by lower U text = given_rows_fault lower U (rows_in text)

-- the first reason, where each ceiling has to be the least and a greater number is higher
abbrev pub settings_fault : List Task → List ℕ → Option SettingsFault
settings_fault = settings_fault_by false

-- ---- how they are found
-- a fault is out of memory, or the first faulty line
abbrev pub IsRowsFault : SettingsFault → Result (List SettingRow) ℕ → Type 0
IsRowsFault fault.OutOfMemory read = Unit {0}
IsRowsFault (fault.BadLine line) read = read ≡ Err line
IsRowsFault _ read = ⊥

-- a fault is out of memory, or the first reason
abbrev pub IsSettingsFault : SettingsFault → Option SettingsFault → Type 0
IsSettingsFault fault.OutOfMemory reason = Unit {0}
IsSettingsFault e reason = reason ≡ Some e
