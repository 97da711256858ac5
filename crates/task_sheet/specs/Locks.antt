-- Locks under the immediate ceiling protocol (Sha, Rajkumar, Lehoczky 1990; POSIX.1-2017, PTHREAD_PRIO_PROTECT).
use Rattle.std.specs.Prelude.{◌≡◌, ℕ, ◌+◌, ◌<◌, Bool, true, false, ◌&&◌, List, [], ◌∷◌, length, slice_index, Option, Some, None, if◌then◌else◌}
use Rattle.std.specs.List.{list_any}
use Rattle.std.specs.Option.{option_or}
use Rattle.task_sheet.specs.Sheet.{Task, CriticalSection, same_bytes, task_at}
use Rattle.task_sheet.specs.Indexes.{Indexes, some_below}

-- the section names the lock
abbrev pub names_lock : CriticalSection → List ℕ → Bool
names_lock s lock = list_any (λ name. same_bytes name lock) s.locks

-- the task uses the lock: some section of it names the lock
abbrev pub uses : Task → List ℕ → Bool
uses t lock = list_any (λ s. names_lock s lock) t.sections

-- the task uses one of the section's locks
abbrev pub shares_lock : Task → CriticalSection → Bool
shares_lock t s = list_any (λ lock. uses t lock) s.locks

-- the tasks X reach the section: one of them uses one of its locks
abbrev pub reaches : List Task → Indexes → CriticalSection → Bool
reaches U X s = some_below (length U) (λ k. X k && shares_lock (task_at U k) s)

-- the highest level of a user, where the order's first task stands at a level
abbrev pub ceiling_from : ℕ → List Task → List ℕ → List ℕ → Option ℕ
ceiling_from level U [] lock = None
ceiling_from level U (i ∷ order) lock =
    option_or (ceiling_from (level + 1) U order lock)
    (if uses (task_at U i) lock then Some level else None)

-- the ceiling of a lock in an order, lowest first: the level of its highest user, from 1
abbrev pub ceiling_of : List Task → List ℕ → List ℕ → Option ℕ
ceiling_of U order lock = ceiling_from 1 U order lock

-- the place of the highest user of a lock in an order, from 0: it uses the lock, and none after it does
pub record IsHighestUser (U : List Task) (order : List ℕ) (lock : List ℕ) (place : ℕ) : Type 0 where
  pub in_order : place < length order
  pub user : uses (task_at U (slice_index order place)) lock ≡ true
  pub none_above : (k : ℕ) → place < k → k < length order
      → uses (task_at U (slice_index order k)) lock ≡ false
