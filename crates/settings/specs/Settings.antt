-- What a node is set to, as text: the priority of each thread and the priority ceiling of each mutex (POSIX.1-2017,
-- SCHED_FIFO and PTHREAD_PRIO_PROTECT). A level is counted from 1, the lowest.
use Rattle.std.specs.Prelude.{ℕ, ◌+◌, ◌-◌, ◌==◌, ◌||◌, List, [], ◌∷◌, ◌++◌, Option, Some, None, codes, length, option_map, replicate, slice_index, if◌then◌else◌}
use Rattle.std.specs.Fmt.{decimal}
use Rattle.task_sheet.specs.Sheet.{Task}
use Rattle.task_sheet.specs.Locks.{ceiling_of}
use Rattle.ceilings.specs.IsTableOf.{locks_of}
use Rattle.lines.specs.Naming.{name_at}
use Rattle.settings.specs.Numbering.{numbers_of, top_of}

-- the thread of a task, and the level that it runs at
abbrev pub thread_line : List Task → ℕ → ℕ → List ℕ
thread_line U level task =
    codes "thread " ++ name_at U task ++ codes " " ++ decimal level ++ codes "\n"

-- a line for each task of an order, of which the first stands at a level
abbrev pub thread_lines : List Task → ℕ → List ℕ → List ℕ
thread_lines U level [] = []
thread_lines U level (task ∷ order) = thread_line U level task ++ thread_lines U (level + 1) order

-- the mutex of a lock, and its ceiling; nothing of a lock that has none
abbrev pub mutex_line : List ℕ → Option ℕ → List ℕ
mutex_line lock (Some level) = codes "mutex " ++ lock ++ codes " " ++ decimal level ++ codes "\n"
mutex_line lock None = []

-- a line for each lock, with its ceiling in an order
abbrev pub mutex_lines : List Task → List ℕ → List (List ℕ) → List ℕ
mutex_lines U order [] = []
mutex_lines U order (lock ∷ locks) =
    mutex_line lock (ceiling_of U order lock) ++ mutex_lines U order locks

-- the threads of an order, the lowest first, and then the mutexes of the set's locks in order of first sight
abbrev pub settings_lines : List Task → List ℕ → List ℕ
settings_lines U order = thread_lines U 1 order ++ mutex_lines U order (locks_of U)

-- ---- real priorities
-- the priority of a level, where this is that of level 1
abbrev pub priority_of : (base level : ℕ) → ℕ
priority_of base level = (base + level) - 1

-- a line for each lock, with the priority of its ceiling in an order
abbrev pub mutex_lines_from : List Task → ℕ → List ℕ → List (List ℕ) → List ℕ
mutex_lines_from U base order [] = []
mutex_lines_from U base order (lock ∷ locks) =
    mutex_line lock (option_map (priority_of base) (ceiling_of U order lock))
    ++ mutex_lines_from U base order locks

-- the same settings, with priorities from this one on
abbrev pub settings_from : List Task → ℕ → List ℕ → List ℕ
settings_from U base order = thread_lines U base order ++ mutex_lines_from U base order (locks_of U)

-- ---- numbers that threads have
-- a line for each task of an order, of which the first stands above so many; its number stands at its place
abbrev pub thread_lines_at : List Task → (numbers : List ℕ) → (place : ℕ) → List ℕ → List ℕ
thread_lines_at U numbers place [] = []
thread_lines_at U numbers place (task ∷ order) =
    thread_line U (slice_index numbers place) task ++ thread_lines_at U numbers (place + 1) order

-- the number of the thread at a level
abbrev pub number_at : (numbers : List ℕ) → (level : ℕ) → ℕ
number_at numbers level = slice_index numbers (level - 1)

-- a line for each lock, with the number of its ceiling in an order
abbrev pub mutex_lines_at : List Task → (numbers order : List ℕ) → List (List ℕ) → List ℕ
mutex_lines_at U numbers order [] = []
mutex_lines_at U numbers order (lock ∷ locks) =
    mutex_line lock (option_map (number_at numbers) (ceiling_of U order lock))
    ++ mutex_lines_at U numbers order locks

-- the settings of an order whose threads have these numbers
abbrev pub settings_at : List Task → (numbers order : List ℕ) → List ℕ
settings_at U numbers order =
    thread_lines_at U numbers 0 order ++ mutex_lines_at U numbers order (locks_of U)

-- a comment, where a thread had a number and has another
abbrev pub moved_line : List Task → (task old number : ℕ) → List ℕ
moved_line U task old number =
    if old == 0 || old == number then []
    else codes "# moved " ++ name_at U task ++ codes " " ++ decimal old ++ codes " "
    ++ decimal number ++ codes "\n"

-- one for each task of an order, of which the first stands above so many
abbrev pub moved_lines : List Task → (old numbers : List ℕ) → (place : ℕ) → List ℕ → List ℕ
moved_lines U old numbers place [] = []
moved_lines U old numbers place (task ∷ order) =
    moved_line U task (slice_index old place) (slice_index numbers place)
    ++ moved_lines U old numbers (place + 1) order

-- the numbers of an order, from a base on
abbrev pub numbers_from : (base room : ℕ) (old : List ℕ) → List ℕ
numbers_from base room old = numbers_of room base (top_of base old) old

-- the settings of an order whose threads have old numbers, of which as many as can stay; then those that have moved
abbrev pub settings_kept : List Task → (base room : ℕ) → (old order : List ℕ) → List ℕ
settings_kept U base room old order =
    settings_at U (numbers_from base room old) order
    ++ moved_lines U old (numbers_from base room old) 0 order

-- the settings of an order from a base on, with room beside each number
abbrev pub settings_anew : List Task → (base room : ℕ) → List ℕ → List ℕ
settings_anew U base room order =
    settings_at U (numbers_from base room (replicate (length order) 0)) order
