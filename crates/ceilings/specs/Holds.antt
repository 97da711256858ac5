-- What sections hold: each lock of each section of a task, with the users of the lock.
use Rattle.std.specs.Prelude.{ℕ, Bool, List, length, if◌then◌else◌}
use Rattle.std.specs.FinSet as set
use Rattle.std.specs.Ordering.{nat_cmp}
use Rattle.task_sheet.specs.Sheet.{Task, task_at}
use Rattle.task_sheet.specs.Indexes.{Indexes, indexes_of, meet, greatest_below}
use Rattle.task_sheet.specs.Demand.{greatest_of, longest_reached}
use Rattle.ceilings.specs.Table.{Table}

-- a section's hold of one lock: the users of the lock, and the section's length
pub record HoldData : Type 0 where
  pub users : set.FinSet nat_cmp
  pub len : ℕ

-- a task, and the holds of its sections
pub record TaskHoldsData : Type 0 where
  pub task : ℕ
  pub holds : List HoldData

-- the users of each lock, the holds of each task, and the tasks above which each task must stand
pub record TableData : Type 0 where
  pub users : Table
  pub holds : List TaskHoldsData
  pub outranked : List (set.FinSet nat_cmp)

-- some member uses the lock
abbrev pub is_reached : set.FinSet nat_cmp → HoldData → Bool
is_reached members h = meet (indexes_of h.users) (indexes_of members)

-- the length of the longest section of one task that the members reach, by what its sections hold
abbrev pub longest_of : List HoldData → set.FinSet nat_cmp → ℕ
longest_of holds members = greatest_of (λ h. if is_reached members h then h.len else 0) holds

-- the same of a task that is no member; 0 of a member
abbrev pub longest_from : set.FinSet nat_cmp → TaskHoldsData → ℕ
longest_from members t = if indexes_of members t.task then 0 else longest_of t.holds members

-- the length of the longest section, of a task that is no member, that the members reach, by what
-- the tasks hold
abbrev pub longest_held : List TaskHoldsData → set.FinSet nat_cmp → ℕ
longest_held tasks members = greatest_of (longest_from members) tasks

-- the longest section, of a task outside X, that the tasks X reach; 0 if there is none
abbrev pub longest_outside : List Task → Indexes → ℕ
longest_outside U X =
    greatest_below (length U) (λ k. if X k then 0 else longest_reached U X (task_at U k))
