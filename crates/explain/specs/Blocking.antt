-- The section that blocks a task longest, with the lock that lets it (Sha, Rajkumar, Lehoczky 1990): of those that some
-- of the tasks below take and whose ceiling reaches the task or one above it, the longest, and of equals the first.
use Rattle.std.specs.Prelude.{◌≡◌, ◌≢◌, ℕ, ◌<◌, ◌⊎◌, ◌&&◌, Bool, List, length, slice_get, Option, Some, None, IsTrue, IsFalse}
use Rattle.std.specs.List.{find}
use Rattle.task_sheet.specs.Sheet.{Task, CriticalSection, task_at}
use Rattle.task_sheet.specs.Indexes.{Indexes, with_index, some_below}
use Rattle.task_sheet.specs.Locks.{uses, reaches}
use Rattle.task_sheet.specs.Demand.{blocking_of}

-- a section that blocks: whose it is, its place among that task's sections, from 0, its length, and a lock of it
pub record BlockerData : Type 0 where
  pub task : ℕ
  pub place : ℕ
  pub len : ℕ
  pub lock : List ℕ

-- how long a section blocks
abbrev pub blocked_by : Option BlockerData → ℕ
blocked_by None = 0
blocked_by (Some b) = b.len

-- some task of X uses the lock
abbrev pub has_user : List Task → Indexes → List ℕ → Bool
has_user U X lock = some_below (length U) (λ k. X k && uses (task_at U k) lock)

-- of a section's locks the first as written that some task of X uses
abbrev pub reached_lock : List Task → Indexes → CriticalSection → Option (List ℕ)
reached_lock U X s = find (has_user U X) s.locks

-- the section at a place of a task blocks task i below the tasks H
pub record BlocksAt (U : List Task) (i : ℕ) (H : Indexes) (task place : ℕ) (s : CriticalSection) : Type 0 where
  pub in_set : task < length U
  pub outside : IsFalse (with_index H i task)
  pub section : slice_get (task_at U task).sections place ≡ Some s
  pub reached : IsTrue (reaches U (with_index H i) s)

-- of the places of two sections, the first stands before the second: by the rank of their tasks, then as written
abbrev pub IsBefore : ℕ → ℕ → ℕ → ℕ → Type 0
IsBefore task place task' place' = (task < task') ⊎ ((task ≡ task') × (place < place'))

-- of the sections that block longest the first, and of its locks the first as written that task i or one of H uses
pub record IsFirstBlocker (U : List Task) (i : ℕ) (H : Indexes) (b : BlockerData) : Type 0 where
  pub section : CriticalSection
  pub blocks : BlocksAt U i H b.task b.place section
  pub len : b.len ≡ section.len
  pub longest : b.len ≡ blocking_of U i H
  pub first : (task place : ℕ) (s : CriticalSection) → BlocksAt U i H task place s
      → IsBefore task place b.task b.place → s.len < b.len
  pub lock : reached_lock U (with_index H i) section ≡ Some b.lock

-- that section, or none where nothing blocks
abbrev pub IsBlockerOf : List Task → ℕ → Indexes → Option BlockerData → Type 0
IsBlockerOf U i H None = blocking_of U i H ≡ 0
IsBlockerOf U i H (Some b) = IsFirstBlocker U i H b

-- ---- the sections of one task that some tasks X reach
-- none of a task's sections before a place that X reach is this long
abbrev pub HasNoneBefore : List Task → Indexes → ℕ → ℕ → ℕ → Type 0
HasNoneBefore U X task len end =
    (place : ℕ) (s : CriticalSection) → place < end
    → slice_get (task_at U task).sections place ≡ Some s
    → IsTrue (reaches U X s) → s.len ≢ len

-- of a task's sections that are this long the first that X reach, and the first of its locks that they use
pub record IsFirstOf (U : List Task) (X : Indexes) (task len : ℕ) (b : BlockerData) : Type 0 where
  pub section : CriticalSection
  pub owner : b.task ≡ task
  pub placed : slice_get (task_at U task).sections b.place ≡ Some section
  pub long : section.len ≡ len
  pub len_is : b.len ≡ len
  pub lock : reached_lock U X section ≡ Some b.lock
  pub first : HasNoneBefore U X task len b.place
