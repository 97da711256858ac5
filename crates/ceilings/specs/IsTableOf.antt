-- The table of a set's locks.
use Rattle.std.specs.Prelude.{◌≡◌, ℕ, ◌<◌, ◌≤◌, List, [], ◌∷◌, ◌++◌, length, flat_map, fold, slice_index_or, if◌then◌else◌}
use Rattle.std.specs.List.{list_any}
use Rattle.std.specs.FinSet as set
use Rattle.std.specs.Ordering.{nat_cmp}
use Rattle.task_sheet.specs.Sheet.{Task, same_bytes, task_at}
use Rattle.task_sheet.specs.declared.set.TheConstants.{TASK_LIMIT}
use Rattle.task_sheet.specs.Indexes.{indexes_of}
use Rattle.task_sheet.specs.Locks.{uses}
use Rattle.task_sheet.specs.Orders.{must_outrank}
use Rattle.ceilings.specs.Table.{Table, locks_in, users_in}
use Rattle.ceilings.specs.Holds.{TableData, longest_held, longest_outside}

-- some names with one more, unless it is among them
abbrev pub with_name : List (List ℕ) → List ℕ → List (List ℕ)
with_name names name =
    if list_any (λ seen. same_bytes name seen) names then names else names ++ name ∷ []

-- the names of some locks, each once, in the order of first sight
abbrev pub first_sights : List (List ℕ) → List (List ℕ)
first_sights names = fold with_name [] names

-- each name of a lock in a set, in the order in which they are written: tasks by rank, sections in
-- order, locks as written
abbrev pub names_in : List Task → List (List ℕ)
names_in U = flat_map (λ t. flat_map (λ s. s.locks) t.sections) U

-- the locks of a set, in the order of first sight
abbrev pub locks_of : List Task → List (List ℕ)
locks_of U = first_sights (names_in U)

-- the set's locks in order, and the users of each are exactly the tasks that use it
pub record AreUsersOf (U : List Task) (table : Table) : Type 0 where
  pub few : length U ≤ TASK_LIMIT
  pub locks : locks_in table ≡ locks_of U
  pub users : (lock : List ℕ) (k : ℕ) → indexes_of (users_in table lock) k ≡ uses (task_at U k) lock

-- for each task, those of the set above which it must stand
abbrev pub AreOutrankedOf : List Task → List (set.FinSet nat_cmp) → Type 0
AreOutrankedOf U rows = (i k : ℕ) → i < length U → k < length U
    → indexes_of (slice_index_or rows i set.empty) k ≡ must_outrank U i k

-- the table has the users of the set's locks, what its sections hold, and the tasks above which
-- each task must stand
pub record IsTableOf (U : List Task) (table : TableData) : Type 0 where
  pub few : length U ≤ TASK_LIMIT
  pub users : AreUsersOf U table.users
  pub holds : (members : set.FinSet nat_cmp)
      → longest_held table.holds members ≡ longest_outside U (indexes_of members)
  pub outranked : AreOutrankedOf U table.outranked
