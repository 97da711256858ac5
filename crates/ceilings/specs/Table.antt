-- A table of locks: each lock with the tasks that use it.
use Rattle.std.specs.Prelude.{ℕ, Bool, List, fold, unwrap_or}
use Rattle.std.specs.List.{list_any}
use Rattle.std.specs.Map.{keys_of, lookup}
use Rattle.std.specs.Ordering.{nat_cmp}
use Rattle.std.specs.FinSet as set
use Rattle.indexmap.specs.IndexMap.{insert_entry}
use Rattle.task_sheet.specs.Sheet.{CriticalSection, Task, same_bytes}
use Rattle.task_sheet.specs.Indexes.{indexes_of, meet}

-- the locks, in the order of first sight, each with the indexes of its users
abbrev pub Table : Type 0
Table = List (List ℕ × set.FinSet nat_cmp)

-- the locks of a table
abbrev pub locks_in : Table → List (List ℕ)
locks_in table = keys_of table

-- the users of a lock; nobody uses a lock that the table doesn't have
abbrev pub users_in : Table → List ℕ → set.FinSet nat_cmp
users_in table lock = unwrap_or (lookup (same_bytes lock) table) set.empty

-- some member uses one of the locks
abbrev pub some_uses : Table → set.FinSet nat_cmp → List (List ℕ) → Bool
some_uses table members locks =
    list_any (λ lock. meet (indexes_of (users_in table lock)) (indexes_of members)) locks

-- ---- how a table grows
-- the lock with one user more
abbrev pub with_user : ℕ → Table → List ℕ → Table
with_user index table lock =
    insert_entry same_bytes table lock (set.insert (users_in table lock) index)

-- the locks of a section, each with one user more
abbrev pub with_section : ℕ → Table → CriticalSection → Table
with_section index table s = fold (with_user index) table s.locks

-- the locks of a task, each with one user more
abbrev pub with_user_of : ℕ → Table → Task → Table
with_user_of index table t = fold (with_section index) table t.sections
