-- What in a set is no fault, but may be a mistake: of each kind all, in the order in which the first is told.
use Rattle.std.specs.Prelude.{ℕ, ◌==◌, nat_lt, Bool, true, false, List, [], ◌∷◌, ◌++◌, Option, Some, None, if◌then◌else◌}
use Rattle.std.specs.List.{list_any, list_all, count_by}
use Rattle.task_sheet.specs.Sheet.{CriticalSection, Task, names_said, same_bytes}
use Rattle.task_sheet.specs.Locks.{uses}
use Rattle.task_sheet.specs.Demand.{limit_of}
use Rattle.doubts.specs.declared.doubt.Doubt.{Doubt}
use Rattle.doubts.specs.declared.doubt.Doubt.TheVariants.{LoneLock, NoSuchName, NamesDecide}

-- the first of some doubts
abbrev pub first_of : List Doubt → Option Doubt
first_of [] = None
first_of (d ∷ ds) = Some d

-- a doubt, if there is one, as a list
abbrev pub listed : Option Doubt → List Doubt
listed None = []
listed (Some d) = d ∷ []

-- ---- locks
-- one of the tasks alone uses the lock
abbrev pub is_lone : List Task → List ℕ → Bool
is_lone U lock = count_by (λ t. uses t lock) U == 1

-- of these locks of a task those that it alone uses, as written
abbrev pub lone_in : List Task → (task : List ℕ) → (locks : List (List ℕ)) → List Doubt
lone_in U task [] = []
lone_in U task (lock ∷ locks) =
    if is_lone U lock then LoneLock task lock ∷ lone_in U task locks else lone_in U task locks

-- the same of the locks of its sections
abbrev pub lone_in_sections : List Task → (task : List ℕ) → List CriticalSection → List Doubt
lone_in_sections U task [] = []
lone_in_sections U task (s ∷ sections) =
    lone_in U task s.locks ++ lone_in_sections U task sections

-- the same of a task
abbrev pub lone_of : List Task → Task → List Doubt
lone_of U t = lone_in_sections U t.name t.sections

-- the same of these tasks of the set U
abbrev pub lone_locks : (U tasks : List Task) → List Doubt
lone_locks U [] = []
lone_locks U (t ∷ tasks) = lone_of U t ++ lone_locks U tasks

-- ---- names to outrank
-- a task has the name
abbrev pub is_known : List Task → List ℕ → Bool
is_known U name = list_any (λ t. same_bytes t.name name) U

-- of these names that a task outranks those that no task of the set has, as written
abbrev pub unknown_in : List Task → (task : List ℕ) → (names : List (List ℕ)) → List Doubt
unknown_in U task [] = []
unknown_in U task (name ∷ names) =
    if is_known U name then unknown_in U task names
    else NoSuchName task name ∷ unknown_in U task names

-- the same of a task
abbrev pub unknown_of : List Task → Task → List Doubt
unknown_of U t = unknown_in U t.name (names_said t.outranks)

-- the same of these tasks of the set U
abbrev pub no_such_names : (U tasks : List Task) → List Doubt
no_such_names U [] = []
no_such_names U (t ∷ tasks) = unknown_of U t ++ no_such_names U tasks

-- ---- names that decide
-- no task has a weight, so ranks are by names alone
abbrev pub is_unweighed : List Task → Bool
is_unweighed U = list_all (λ t. t.weight == 0) U

-- a task below others of which the next one has a longer limit
abbrev pub rise : Task → (above : List Task) → Option Doubt
rise t [] = None
rise t (u ∷ above) =
    if nat_lt (limit_of t) (limit_of u) then Some (NamesDecide t.name u.name) else None

-- the tasks, by rank, of which that is so
abbrev pub rises : List Task → List Doubt
rises [] = []
rises (t ∷ above) = listed (rise t above) ++ rises above

-- the same where names decide
abbrev pub names_deciding : List Task → List Doubt
names_deciding U = if is_unweighed U then rises U else []

-- ---- all
-- names decide only where nobody says by what a set is preferred
abbrev pub deciding_where : (is_unpreferred : Bool) → List Task → List Doubt
deciding_where true U = names_deciding U
deciding_where false U = []

-- the doubts of a set
abbrev pub doubts_of : (is_unpreferred : Bool) → List Task → List Doubt
doubts_of is_unpreferred U =
    lone_locks U U ++ no_such_names U U ++ deciding_where is_unpreferred U
