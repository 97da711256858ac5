-- The locks of a node: the names under which sections may take one, and the lock that each is of. A lock may have second
-- names for a time, in which teams rename it one after the other.
use Rattle.std.specs.Prelude.{ℕ, ◌+◌, List, [], ◌∷◌, map, Option, Some, None, unwrap_or, option_map, if◌then◌else◌}
use Rattle.std.specs.Option.{option_or}
use Rattle.task_sheet.specs.Sheet.{CriticalSection, Task, holding, same_bytes}
use Rattle.task_sheet.specs.SheetFault.{list_fault}
use Rattle.teams.specs.Owned.{TeamSetData}
use Rattle.teams.specs.declared.naming.Lock.{Lock}
use Rattle.teams.specs.declared.fault.TeamsFault.{TeamsFault}
use Rattle.teams.specs.declared.fault.TeamsFault.TheVariants.{Renamed, UnknownLock}

-- the lock that a name is of; none where it is of none
abbrev pub lock_of : List Lock → List ℕ → Option (List ℕ)
lock_of [] name = None
lock_of (l ∷ locks) name = if same_bytes l.name name then Some l.lock else lock_of locks name

-- ---- names that are of no lock
abbrev pub strange_name : Option (List ℕ) → List ℕ → Option (List ℕ)
strange_name None name = Some name
strange_name (Some lock) name = None

-- the first such of some
abbrev pub stranger_in : List Lock → List (List ℕ) → Option (List ℕ)
stranger_in locks [] = None
stranger_in locks (n ∷ ns) = option_or (strange_name (lock_of locks n) n) (stranger_in locks ns)

-- the first section that takes a lock by such a name, where the first stands at a place
abbrev pub strange_section : List Lock → (team task : List ℕ) → ℕ → List CriticalSection → Option TeamsFault
strange_section locks team task place [] = None
strange_section locks team task place (s ∷ ss) =
    option_or (option_map (λ lock. UnknownLock team task place lock) (stranger_in locks s.locks))
    (strange_section locks team task (place + 1) ss)

-- ---- locks by their own names
abbrev pub own_name : List Lock → List ℕ → List ℕ
own_name locks name = unwrap_or (lock_of locks name) name

-- a section that says them
abbrev pub named_section : List Lock → CriticalSection → CriticalSection
named_section locks s = record s { locks = map (own_name locks) s.locks }

-- a task of such sections
abbrev pub named_task : List Lock → Task → Task
named_task locks t = holding t (map (named_section locks) t.sections)

-- why a task has no such sections: one takes a lock by a name of none, or with its own name that stands twice
abbrev pub task_fault : List Lock → List ℕ → Task → Option TeamsFault
task_fault locks team t =
    option_or (strange_section locks team t.name 1 t.sections)
    (option_map (λ cause. Renamed team t.name cause)
    (list_fault t.cost (map (named_section locks) t.sections)))

-- the first of a document's tasks that has none
abbrev pub tasks_fault : List Lock → List ℕ → List Task → Option TeamsFault
tasks_fault locks team [] = None
tasks_fault locks team (t ∷ ts) = option_or (task_fault locks team t) (tasks_fault locks team ts)

-- and of all documents
abbrev pub sets_fault : List Lock → List TeamSetData → Option TeamsFault
sets_fault locks [] = None
sets_fault locks (s ∷ sets) = option_or (tasks_fault locks s.team s.set) (sets_fault locks sets)

-- the same where the node has a list of locks
abbrev pub locks_fault : Option (List Lock) → List TeamSetData → Option TeamsFault
locks_fault None sets = None
locks_fault (Some locks) sets = sets_fault locks sets

-- a document with its locks by their own names
abbrev pub named_set : List Lock → TeamSetData → TeamSetData
named_set locks s = record s { set = map (named_task locks) s.set }

-- all documents so, where the node has a list of locks
abbrev pub named_by : Option (List Lock) → List TeamSetData → List TeamSetData
named_by None sets = sets
named_by (Some locks) sets = map (named_set locks) sets
